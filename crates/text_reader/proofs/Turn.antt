-- One line of a text: what it adds where no test fails, and the refusal where one does.
--     legible-line                   a legible line passes test 1
--     offset-first, stopped-first    the line's first byte, for all numbers but 1 and 6
--     fault-kind .. fault-rank       the tests before those of a group
--     room-passed                    where no test fails there is room
--     turn-taken, turn-faulty        reading goes on after it, or ends there
--     turn-illegible                 a line that is not legible
-- Assumes nothing.
use mathlib.Core.Bool.{Bool, true, false}
use mathlib.Core.List.{List, [], ◌∷◌}
use mathlib.Core.Path.{◌≡◌, refl}
use Prim.Native.Nat.{ℕ, zero, suc, ◌+◌, ◌-◌, ◌<◌}
use native.Mathlib.Numerals.{add-one}
use native.Mathlib.Omega.{arith}
use lib.Dec.{eqb}
use lib.ListN.{drop}
use borrow.Author.Tests.{lt-ltb, eq-eqb}
use Rattle.meaning.specs.Text as M
use Rattle.meaning.specs.Text.{Read, faulty, read_lines, narrow, lines_of, legible, is_nowhere, non_digit, known, sized, ranked, tests_of, first_fault, offset_of, put}
use Rattle.text_lines.specs.Lines.{Legible, Illegible}
use Rattle.text_lines.proofs.Breaks.{all-nowhere}
use Rattle.text_lines.proofs.Scan.{part, part_length, part-digits, run-lines}
use Rattle.text_reader.specs.Kinds.{fields_at}
use Rattle.text_reader.specs.Lines.{line_of, kind_in, entry_in, fault_in, offset_for, Stopped}

pub offset-first : (text : List ℕ) (at end : ℕ) (s : Read) (x : ℕ) → eqb x 1 ≡ false → eqb x 6 ≡ false → offset_for text at end s x ≡ 0
unfolding offset_for offset_of
offset-first text at end s x e f = rw (e, f)

pub stopped-first : (text : List ℕ) (at end : ℕ) (s : Read) (m x : ℕ) → m ≡ x → eqb x 1 ≡ false → eqb x 6 ≡ false → 0 < x → Stopped m (offset_for text at end s) x 0
stopped-first text at end s m x e f g h = record { number = e; byte = offset-first text at end s x f g; some = h }

-- where no test fails, the fifth does not
fifth : (a b c d e f g : Bool) → first_fault 1 (a ∷ b ∷ c ∷ d ∷ e ∷ f ∷ g ∷ []) ≡ 0 → e ≡ true
unfolding first_fault
fifth true true true true true f g h = refl
fifth true true true true false f g h = absurd (omega (arith, h))
fifth true true true false e f g h = absurd (omega (arith, h))
fifth true true false d e f g h = absurd (omega (arith, h))
fifth true false c d e f g h = absurd (omega (arith, h))
fifth false b c d e f g h = absurd (omega (arith, h))

pub room-passed : (text : List ℕ) (at end : ℕ) (s : Read) (e : M.Entry) → entry_in text at end ≡ e → fault_in text at end s ≡ 0 → M.room narrow e s ≡ true
unfolding tests_of
room-passed text at end s e i f = rw (← i) (fifth _ _ _ _ _ _ _ f)

module _ (text : List ℕ) (at end : ℕ) (g : Legible text at end) where
  pub legible-line : legible (line_of text at end) ≡ true
  unfolding legible non_digit is_nowhere
  legible-line =
      let n = part_length text at end (omega (arith, g.from)) (omega (arith, g.inside)) in
      let d = part-digits text at end (omega (arith, g.from)) (omega (arith, g.inside)) g.digits in
      rw (all-nowhere 0 (part text at end) d, n, eq-eqb _ _ g.even, lt-ltb 0 (end - at) (omega (arith, g.from)))

  lines : lines_of (drop at text) ≡ line_of text at end ∷ lines_of (drop (end + 1) text)
  lines = rw (add-one end) (run-lines text at end (omega (arith, g.from)) g.inside g.digits g.feed)

  module _ (s : Read) where
    pub fault-kind : known (fields_at text at end) ≡ false → Stopped (fault_in text at end s) (offset_for text at end s) 2 0
    unfolding tests_of first_fault
    fault-kind e = stopped-first text at end s _ 2 (rw (legible-line, e)) refl refl (omega arith)

    module _ (knows : known (fields_at text at end) ≡ true) where
      pub fault-size : sized (kind_in text at end) (fields_at text at end) ≡ false → Stopped (fault_in text at end s) (offset_for text at end s) 3 0
      unfolding tests_of first_fault
      fault-size e = stopped-first text at end s _ 3 (rw (legible-line, knows, e)) refl refl (omega arith)

      pub fault-rank : sized (kind_in text at end) (fields_at text at end) ≡ true → ranked (entry_in text at end) s ≡ false
          → Stopped (fault_in text at end s) (offset_for text at end s) 4 0
      unfolding tests_of first_fault
      fault-rank e f = stopped-first text at end s _ 4 (rw (legible-line, knows, e, f)) refl refl (omega arith)

  module _ (line : ℕ) (s : Read) where
    pub turn-taken : fault_in text at end s ≡ 0
        → read_lines narrow line s (lines_of (drop at text)) ≡ read_lines narrow (suc line) (put (entry_in text at end) s) (lines_of (drop (end + 1) text))
    unfolding read_lines
    turn-taken e = rw lines (rw (e, read_lines))

    pub turn-faulty : (x o : ℕ) → Stopped (fault_in text at end s) (offset_for text at end s) x o
        → read_lines narrow line s (lines_of (drop at text)) ≡ faulty (record { number = x; place = line; offset = o })
    unfolding read_lines offset_for
    turn-faulty zero o h = absurd (omega (arith, h.some))
    turn-faulty (suc x) o h = rw lines (rw (h.number, read_lines, h.byte))

pub turn-illegible : (text : List ℕ) (at line o : ℕ) (s : Read) → Illegible text at o
    → read_lines narrow line s (lines_of (drop at text)) ≡ faulty (record { number = 1; place = line; offset = o })
unfolding read_lines tests_of first_fault offset_of
turn-illegible text at line o s b = rw b.lines (rw (b.bad, read_lines, b.byte))
