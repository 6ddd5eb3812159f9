-- The reader's promise, from the first line to the last.
--     stand-first                 before the first line
--     moved-stands, moved-less     the next line, further on
--     ends-faulty, ends-taken      where the reading ends
--     reads-refused              a text with a fault
--     taken-within, reads-taken   a text without one
-- Assumes nothing.
use mathlib.Core.List.{List}
use mathlib.Core.Path.{◌≡◌, refl, ◌∙◌}
use Prim.Native.Nat.{ℕ, ◌-◌, ◌<◌, ◌≤◌}
use native.Mathlib.Omega.{arith}
use lib.ListN.{length, drop_of_length-le}
use borrow.Author.Rules.{rules}
use Rattle.std.specs.Prelude.{Ok, Err}
use Rattle.meaning.specs.Columns.{pad}
use Rattle.meaning.specs.Text.{lines_of, lines_from, read_lines}
use Rattle.replies.specs.declared.Refusal.{Refusal}
use Rattle.text_runs.specs.Numbers.{numbers_of}
use Rattle.text_runs.specs.Reads.{Reads}
use Rattle.text_runs.specs.declared.Filled.{Filled}
use Rattle.text_runs.specs.declared.Told.{Told}
use Rattle.text_reader.specs.Faults.{refusal_of}
use Rattle.text_reader.specs.Lines.{Stands, Steps, Ends, told_refused}
use Rattle.text_reader.specs.Pieces.{no_pieces}
use Rattle.text_reader.specs.State.{start_state, Within, numbers_in}
use Rattle.text_reader.specs.declared.faults.Fault.{Fault}
use Rattle.text_reader.specs.declared.pieces.Pieces.{Pieces}
use Rattle.text_reader.specs.declared.state.State.{State}
use Rattle.text_reader.proofs.Filling.{filled-holds}
use Rattle.text_reader.proofs.Standing.{stand-start}

pub stand-first : (text : List ℕ) (s : State) (r : Pieces) → s ≡ start_state → r ≡ no_pieces → Stands text s r
stand-first text s r e f = rw (e, f) (stand-start text)

module _ (text : List ℕ) (s : State) (r : Pieces) where
  module _ (n : State) (p : Steps text s (Ok n) r) where
    pub moved-stands : Stands text n r
    moved-stands = p.stands

    pub moved-less : s.at < length text → length text - n.at < length text - s.at
    moved-less h = omega (arith, p.further)

  pub ends-faulty : (f : Fault) → Steps text s (Err f) r → (x : Refusal) → x ≡ refusal_of s.line f → (r' : Pieces) → Ends text (Err x) r'
  ends-faulty f p x e r' = rw e p

  pub ends-taken : Stands text s r → length text ≤ s.at → Ends text (Ok s) r
  unfolding lines_of lines_from read_lines
  ends-taken h b = record { so = h.so; same = h.same ∙ rw (drop_of_length-le text b); within = h.within; holds = h.holds; space = h.space }

module _ (text : List ℕ) (r : Pieces) where
  pub reads-refused : (x : Refusal) → Ends text (Err x) r → (z : Told) → z ≡ told_refused x → Reads text z
  unfolding told_refused numbers_of pad
  reads-refused x f z j =
      rw j record {
        told = rw f;
        rows = rw f record { run_is = refl; filled_is = refl };
        said = rw f record { run_is = refl; filled_is = refl };
        patterns = rw f record { run_is = refl; filled_is = refl };
        literals = rw f record { run_is = refl; filled_is = refl };
      }

  module _ (s : State) (end : Ends text (Ok s) r) where
    pub taken-within : Within s
    taken-within = end.within

    pub reads-taken : (f : Filled) → f ≡ numbers_in s → Reads text (record { answer = Ok tt; filled = f; rows = r.rows; said = r.said; patterns = r.patterns; literals = r.literals })
    reads-taken f k =
        rw k record {
          told = rw end.same;
          rows = rw end.same (filled-holds 6 end.holds.rows 1530 end.space.rows);
          said = rw end.same (filled-holds 3 end.holds.said 1530 end.space.said);
          patterns = rw end.same (filled-holds 7 end.holds.patterns 448 end.space.patterns);
          literals = rw end.same (filled-holds 3 end.holds.literals 48 end.space.literals);
        }

pub ruleset mine = (rules, stand-first, moved-stands, moved-less, ends-faulty, ends-taken, reads-refused, taken-within, reads-taken)
