-- Lines and entries by cases: what is read where a part of them stands, and where it does not.
use Rattle.std.specs.Prelude.{◌≡◌, Bool, true, false, cond, ◌&&◌, List, ℕ, suc, ◌+◌, ◌-◌, ◌^◌, length, Option, Some, None}
use Rattle.std.proofs.Common.{sym, ap, ◌∙◌, arith}
use Rattle.virtio.specs.declared.Buffer.{Buffer}
use Rattle.text.specs.declared.Side.{Side}
use Rattle.text.specs.Words.{newline, colon, line_none}
use Rattle.text.specs.Text.{Found, FoundEntry, stands, none, read, number, ended, field, unlisted, listed, entry_at, entries, side_from, side}

-- ---- a key and a number

module _ (key : List ℕ) (most : ℕ) (s : List ℕ) (at : ℕ) where
  pub field_no_key : stands key s at ≡ false → field key most s at ≡ none
  field_no_key k = rw k

  -- the number r was read behind the key
  module _ (r : Found) (is : r ≡ number most s (at + length key)) (k : stands key s at ≡ true) where
    field_ended : field key most s at ≡ ended s r
    field_ended = rw k (ap (ended s) (sym is))

    pub field_no_number : r.ok ≡ false → field key most s at ≡ none
    field_no_number o = field_ended ∙ rw o

    pub field_no_end : r.ok ≡ true → stands newline s r.at ≡ false → field key most s at ≡ none
    field_no_end o e = field_ended ∙ rw (o, e)

    pub field_good : r.ok ≡ true → stands newline s r.at ≡ true → field key most s at ≡ read r.value (r.at + 1)
    field_good o e =
        let n : suc r.at ≡ r.at + 1 = omega arith in
        field_ended ∙ rw (o, e) (ap (read r.value) n)

-- ---- an address and a length

-- the entry of an address a and a length l
abbrev pub entry_of : Found → Found → FoundEntry
entry_of a l = record { ok = l.ok; addr = a.value; len = l.value; at = l.at }

abbrev entry_from : List ℕ → Found → FoundEntry
entry_from s a = entry_of a (cond (a.ok && stands colon s a.at) (number (2 ^ 32 - 1) s (suc a.at)) none)

-- the address a was read there
module _ (s : List ℕ) (at : ℕ) (a : Found) (is : a ≡ number (2 ^ 64 - 1) s at) where
  entry_from_lem : entry_from s a ≡ entry_at s at
  entry_from_lem = ap (entry_from s) is

  pub entry_no_number : a.ok ≡ false → entry_of a none ≡ entry_at s at
  entry_no_number o =
      let e : entry_from s a ≡ entry_of a none = rw o in
      sym e ∙ entry_from_lem

  pub entry_no_colon : a.ok ≡ true → stands colon s a.at ≡ false → entry_of a none ≡ entry_at s at
  entry_no_colon o k =
      let e : entry_from s a ≡ entry_of a none = rw (o, k) in
      sym e ∙ entry_from_lem

  pub entry_good : (l : Found) → l ≡ number (2 ^ 32 - 1) s (a.at + 1) → a.ok ≡ true → stands colon s a.at ≡ true → entry_of a l ≡ entry_at s at
  entry_good l il o k =
      let n : a.at + 1 ≡ suc a.at = omega arith in
      let e : entry_from s a ≡ entry_of a (number (2 ^ 32 - 1) s (suc a.at)) = rw (o, k) in
      ap (entry_of a) (il ∙ ap (number (2 ^ 32 - 1) s) n) ∙ sym e ∙ entry_from_lem

-- ---- the end of a line of entries

abbrev pub side_of : ℕ → ℕ → Option Side
side_of k at = Some (record { count = k; at = at })

-- the line ends there after k buffers
abbrev pub ends_at : List ℕ → ℕ → ℕ → Option Side
ends_at s at k = cond (stands newline s at) (side_of k (suc at)) None

module _ (s : List ℕ) (at k : ℕ) where
  pub end_good : stands newline s at ≡ true → side_of k (at + 1) ≡ ends_at s at k
  end_good e =
      let n : at + 1 ≡ suc at = omega arith in
      rw e (ap (side_of k) n)

  pub end_wrong : stands newline s at ≡ false → None ≡ ends_at s at k
  end_wrong e = rw e

-- ---- a key and entries

module _ (key : List ℕ) (output : Bool) (s : List ℕ) (at : ℕ) (bs : List Buffer) where
  pub side_no_key : stands key s at ≡ false → side key output s at bs ≡ unlisted
  side_no_key k = rw k

  module _ (k : stands key s at ≡ true) where
    side_from_lem : side key output s at bs ≡ side_from output s (at + length key) bs
    side_from_lem = rw k

    pub side_word : stands line_none s (at + length key) ≡ true → side key output s at bs ≡ listed bs (at + length key + 5)
    side_word w = side_from_lem ∙ rw w

    pub side_nothing
        : stands line_none s (at + length key) ≡ false
        → stands newline s (at + length key) ≡ true
        → side key output s at bs ≡ listed bs (at + length key + 1)
    side_nothing w n =
        let m : suc (at + length key) ≡ at + length key + 1 = omega arith in
        side_from_lem ∙ rw (w, n) (ap (listed bs) m)

    pub side_entries
        : stands line_none s (at + length key) ≡ false
        → stands newline s (at + length key) ≡ false
        → side key output s at bs ≡ entries 65 output s (at + length key) bs
    side_entries w n = side_from_lem ∙ rw (w, n)
