-- A legible line that names two rows: what the function on it answers is what the tests of such a line say.
--     PairVerdict      an answer agrees with the number of the first test that fails and with the byte that it names
--     missing, all_in   the first of some rows that is not there; whether each is
--     spot-small       where the first of some rows fails
--     pair-verdict     they do
-- Assumes nothing.
use mathlib.Core.Bool.{Bool, true, false, cond}
use mathlib.Core.List.{List, [], ◌∷◌}
use mathlib.Core.Path.{◌≡◌, refl, ◌∙◌}
use Prim.Native.Nat.{ℕ, suc, ◌+◌, ◌-◌, ◌*◌, ◌≤◌}
use native.Mathlib.Omega.{arith}
use lib.Dec.{ltb}
use lib.ListN.{length}
use Rattle.std.specs.Prelude.{Result, Ok, Err}
use Rattle.meaning.specs.Text as M
use Rattle.meaning.specs.Text.{Kind, Entry, Read, narrow, field_at, entry_of, known, sized, ranked, refers, no_row, named_by, table_of, agrees, Spot, first_failing, is_nowhere, spot_or, names_from, bad_field, offset_of, tests_of, first_fault}
use Rattle.text_lines.specs.Given.{given}
use Rattle.text_lines.specs.Lines.{Legible}
use Rattle.text_lines.specs.declared.entries.Pair.{Pair}
use Rattle.text_lines.proofs.Fields.{field-at}
use Rattle.text_reader.specs.Entries.{pair_in, row_of}
use Rattle.text_reader.specs.Faults.{number_of, byte_of}
use Rattle.text_reader.specs.Kinds.{fields_at}
use Rattle.text_reader.specs.Lines.{kind_in, entry_in, fault_in, offset_for, Stopped}
use Rattle.text_reader.specs.declared.faults.Fault.{Fault}
use Rattle.text_reader.specs.declared.faults.Fault.TheVariants.{NoRoom}
use Rattle.text_reader.proofs.Turn.{offset-first, legible-line}

-- with the fields p and q
abbrev pub PairVerdict : ℕ → ℕ → Result Pair Fault → ℕ → (ℕ → ℕ) → Type 0
PairVerdict p q (Ok e) m offset = (m ≡ 0) × (e.left ≡ p) × (e.right ≡ q)
PairVerdict p q (Err f) m offset = Stopped m offset (number_of f) (byte_of f)

abbrev pub missing : ℕ → List ℕ → Spot
missing n l = first_failing (λ r. ltb r n) 0 l

abbrev pub all_in : ℕ → List ℕ → Bool
all_in n l = is_nowhere (missing n l)

pub spot-small : (test : ℕ → Bool) (i : ℕ) (l : List ℕ) → spot_or 0 (first_failing test i l) ≤ i + length l
unfolding first_failing spot_or
spot-small test i [] = omega arith
spot-small test i (a ∷ l) = go (test a) refl (spot-small test (suc i) l)
  where
    go : (t : Bool) → test a ≡ t → spot_or 0 (first_failing test (suc i) l) ≤ suc i + length l → spot_or 0 (first_failing test i (a ∷ l)) ≤ i + suc (length l)
    go true e h = rw (e, first_failing) (omega arith)
    go false e h = rw (e, first_failing) (omega arith)

abbrev found : ℕ → ℕ → ℕ → Result Pair Fault
found n p q = given (row_of 2 n p) (λ x. given (row_of 4 n q) (λ y. Ok (record { left = x; right = y })))

module _ (n p q : ℕ) (offset : ℕ → ℕ) (six : offset 6 ≡ (1 + spot_or 0 (missing n (p ∷ q ∷ []))) * 2) where
  abbrev Both : Type 0
  Both = PairVerdict p q (found n p q) (first_fault 1 (true ∷ true ∷ true ∷ true ∷ true ∷ all_in n (p ∷ q ∷ []) ∷ true ∷ [])) offset

  both : Both
  unfolding first_failing is_nowhere first_fault spot_or
  both = go (ltb p n) refl (ltb q n) refl
    where
      go : (a : Bool) → ltb p n ≡ a → (b : Bool) → ltb q n ≡ b → Both
      go true e true f = rw (e, f, first_failing) (refl, refl, refl)
      go true e false f = let s : offset 6 ≡ 4 = six ∙ rw (e, f, first_failing) in rw (e, f, first_failing) record { number = refl; byte = s; some = omega arith }
      go false e b f = let s : offset 6 ≡ 2 = six ∙ rw (e, first_failing) in rw (e, first_failing) record { number = refl; byte = s; some = omega arith }

  roomed : (room : Bool) → offset 5 ≡ 0
      → PairVerdict p q (cond room (found n p q) (Err NoRoom)) (first_fault 1 (true ∷ true ∷ true ∷ true ∷ room ∷ all_in n (p ∷ q ∷ []) ∷ true ∷ [])) offset
  unfolding first_fault
  roomed true five = both
  roomed false five = record { number = refl; byte = five; some = omega arith }

-- what a kind of line has to be for its lines to name two rows
pub record PairKind (l : List ℕ) (s : Read) (k : Kind) (mk : ℕ → ℕ → Entry) (n : ℕ) (room : Bool) : Type 0 where
  pub entry : entry_of k l ≡ mk (field_at l 1) (field_at l 2)
  pub ranks : (p q : ℕ) → ranked (mk p q) s ≡ true
  pub rooms : (p q : ℕ) → M.room narrow (mk p q) s ≡ room
  pub names : (p q : ℕ) → named_by (mk p q) ≡ p ∷ q ∷ []
  pub from : (p q : ℕ) → names_from (mk p q) ≡ 1
  pub table : (p q : ℕ) → table_of (mk p q) s ≡ n
  pub agree : (p q : ℕ) → agrees (mk p q) s ≡ true

module _ (text : List ℕ) (at end : ℕ) (g : Legible text at end) (s : Read) (k : Kind) (mk : ℕ → ℕ → Entry) (n : ℕ) (room : Bool)
    (knows : known (fields_at text at end) ≡ true) (kind : kind_in text at end ≡ k) (size : sized k (fields_at text at end) ≡ true) (d : end - at ≡ 6)
    (is : PairKind (fields_at text at end) s k mk n room) where
  refers-is : (p q : ℕ) → refers (mk p q) s ≡ all_in n (p ∷ q ∷ [])
  unfolding refers no_row
  refers-is p q = rw (is.names p q, is.table p q)

  abbrev left : ℕ
  left = field_at (fields_at text at end) 1

  abbrev right : ℕ
  right = field_at (fields_at text at end) 2

  fault-is : fault_in text at end s ≡ first_fault 1 (true ∷ true ∷ true ∷ true ∷ room ∷ all_in n (left ∷ right ∷ []) ∷ true ∷ [])
  unfolding tests_of
  fault-is =
      rw (
        kind,
        is.entry,
        legible-line text at end g,
        knows,
        size,
        is.ranks left right,
        is.rooms left right,
        refers-is left right,
        is.agree left right,
      )

  pub pair-entry : entry_in text at end ≡ mk left right
  pair-entry = rw kind is.entry

  bad-field : bad_field (mk left right) s ≡ (1 + spot_or 0 (missing n (left ∷ right ∷ []))) * 2
  unfolding bad_field no_row
  bad-field = rw (is.from left right, is.names left right, is.table left right)

  offset-six : offset_for text at end s 6 ≡ (1 + spot_or 0 (missing n (left ∷ right ∷ []))) * 2
  unfolding offset_for offset_of
  offset-six = rw (pair-entry, bad-field) (let h = spot-small (λ r. ltb r n) 0 (left ∷ right ∷ []) in omega arith)

  pub pair-verdict : PairVerdict left right (pair_in text at room n) (fault_in text at end s) (offset_for text at end s)
  unfolding pair_in
  pair-verdict =
      rw (fault-is, ← field-at text at end g 1 (omega arith), ← field-at text at end g 2 (omega arith))
      (roomed n left right (offset_for text at end s) offset-six room (offset-first text at end s 5 refl refl))
