-- How the record is stored.
--   Views     what the code reads of the private tables, as functions over lent lists, one for each field
--   Tables    the tables as lists of words, and the rules' tables and record that they say
--   Clauses   the clauses of a well-formed record, over the views
--   Fresh     what all-zero and fresh words say
--   Fixed     the tables fix the words
--   Over      tests and counts over the first n numbers
pub mod Views
pub mod Tables
pub mod Clauses
pub mod Fresh
pub mod Fixed
pub mod Over
