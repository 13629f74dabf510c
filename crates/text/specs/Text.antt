-- How the text of a replay is read (document 01, "Replays, with one given whole"): words, plain decimal numbers within a width and without leading
-- zeros, lines of a key and a number, and lines of a key and entries. s is the whole text, and `at` the place from which it is read.
use Rattle.std.specs.Prelude.{Bool, true, false, cond, ◌&&◌, List, [], ◌∷◌, ◌++◌, ℕ, zero, suc, ◌+◌, ◌-◌, ◌*◌, ◌^◌, leb, eqb, length, drop, Option, Some, None}
use Rattle.virtio.specs.declared.Buffer.{Buffer}
use Rattle.text.specs.declared.Number.{Number}
use Rattle.text.specs.declared.Entry.{Entry}
use Rattle.text.specs.Words.{newline, colon, comma, line_none}

-- the text starts with the word
unfoldable pub starts : List ℕ → List ℕ → Bool
starts [] text = true
starts (w ∷ ws) [] = false
starts (w ∷ ws) (c ∷ cs) = eqb w c && starts ws cs

abbrev pub stands : List ℕ → List ℕ → ℕ → Bool
stands word s at = starts word (drop at s)

-- ---- numbers

-- whether a number stood there within its width, which it is, and where the text goes on
pub record Found : Type 0 where
  pub ok : Bool
  pub value : ℕ
  pub at : ℕ

-- as the code answers it
abbrev pub told : Found → Option Number
told r = cond r.ok (Some (record { value = r.value; at = r.at })) None

-- none stood there
abbrev pub none : Found
none = record { ok = false; value = 0; at = 0 }

abbrev pub read : ℕ → ℕ → Found
read v at = record { ok = true; value = v; at = at }

abbrev pub digit : ℕ → Bool
digit c = leb 48 c && leb c 57

-- the digits go on from v, as long as the number is at most `most`
unfoldable pub digits_in : ℕ → List ℕ → ℕ → ℕ → Found
digits_in most [] at v = read v at
digits_in most (c ∷ cs) at v =
    cond (digit c) (cond (leb (v * 10 + (c - 48)) most) (digits_in most cs (suc at) (v * 10 + (c - 48))) none) (read v at)

-- a number starts with a digit, and one that starts with 0 is 0
unfoldable pub number_in : ℕ → List ℕ → ℕ → Found
number_in most [] at = none
number_in most (c ∷ cs) at = cond (eqb c 48) (read 0 (suc at)) (cond (digit c) (digits_in most (c ∷ cs) at 0) none)

abbrev pub number : ℕ → List ℕ → ℕ → Found
number most s at = number_in most (drop at s) at

-- the line ends after it
abbrev pub ended : List ℕ → Found → Found
ended s r = cond (r.ok && stands newline s r.at) (read r.value (suc r.at)) none

-- a line of a key and a number
abbrev pub field : List ℕ → ℕ → List ℕ → ℕ → Found
field key most s at = cond (stands key s at) (ended s (number most s (at + length key))) none

-- ---- entries

-- what a side's line says: whether it is good, the buffers so far with its own behind them, and where the next line starts
pub record Listed : Type 0 where
  pub good : Bool
  pub buffers : List Buffer
  pub at : ℕ

abbrev pub unlisted : Listed
unlisted = record { good = false; buffers = []; at = 0 }

abbrev pub listed : List Buffer → ℕ → Listed
listed bs at = record { good = true; buffers = bs; at = at }

-- whether an entry stood there, its address and length, and where the text goes on
pub record FoundEntry : Type 0 where
  pub ok : Bool
  pub addr : ℕ
  pub len : ℕ
  pub at : ℕ

-- as the code answers it
abbrev pub told_entry : FoundEntry → Option Entry
told_entry e = cond e.ok (Some (record { addr = e.addr; len = e.len; at = e.at })) None

-- an address of 64 bits, a colon and a length of 32 bits
abbrev len_after : List ℕ → Found → Found
len_after s a = cond (a.ok && stands colon s a.at) (number (2 ^ 32 - 1) s (suc a.at)) none

abbrev pub entry_at : List ℕ → ℕ → FoundEntry
entry_at s at =
    let a : Found = number (2 ^ 64 - 1) s at in
    let l : Found = len_after s a in
    record { ok = l.ok; addr = a.value; len = l.value; at = l.at }

abbrev pub buffer_of : Bool → FoundEntry → Buffer
buffer_of output e = record { addr = e.addr; len = e.len; output = output }

-- the last entry's line ends there
abbrev pub list_end : List ℕ → ℕ → List Buffer → Listed
list_end s at bs = cond (stands newline s at) (listed bs (suc at)) unlisted

-- at most so many entries, joined by commas, behind the buffers bs
unfoldable pub entries : ℕ → Bool → List ℕ → ℕ → List Buffer → Listed
entries zero output s at bs = unlisted
entries (suc k) output s at bs =
    let e : FoundEntry = entry_at s at in
    let more : List Buffer = bs ++ (buffer_of output e ∷ []) in
    cond
    e.ok
    (cond (stands comma s e.at) (entries k output s (suc e.at) more) (list_end s e.at more))
    unlisted

-- a line of a key and entries, at most 65; none is written as the word or as nothing
abbrev pub side_from : Bool → List ℕ → ℕ → List Buffer → Listed
side_from output s at bs =
    cond
    (stands line_none s at)
    (listed bs (at + 5))
    (cond (stands newline s at) (listed bs (suc at)) (entries 65 output s at bs))

abbrev pub side : List ℕ → Bool → List ℕ → ℕ → List Buffer → Listed
side key output s at bs = cond (stands key s at) (side_from output s (at + length key) bs) unlisted
