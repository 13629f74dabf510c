-- More of what is said of numbers and lists: laws that rest on others of specs/, which an edit in must-fail/ makes wrong.
--   Asked  the beginning and the answer of a check of names, where links may lead out
pub mod Asked
