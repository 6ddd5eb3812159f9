-- What `grounds` prints, tried on one text, the lullaby of the sheet: whatever meets the claims prints its breach and some grounds.
--     some-line        the line that comes first
--     no-frameless     a candidate with no line behind it
--     no-idle          a filler that stays where it is, though there is a line left and room for it
-- Assumes nothing.
use mathlib.Core.Bool.{Bool, true, false}
use mathlib.Core.List.{List, []}
use mathlib.Core.Path.{◌≡◌, refl, ap, sym, ◌∙◌, subst}
use Prim.Native.Nat.{ℕ, zero, suc, ◌-◌, ◌≤◌, ◌<◌}
use native.Mathlib.Omega.{arith}
use lib.Dec.{ltb}
use borrow.Author.Tests.{ltb-true, ltb-false}
use lib.ListN.{length, length-append}
use Rattle.meaning.specs.Writing.{frame, hex, digit_of}
use Rattle.meaning.specs.Replies.{Reply, code_of, values_of, printed}
use Rattle.meaning.specs.Sheet.{bytes}
use Rattle.grounds_verdict.specs.declared.Conclusions.{Conclusions}
use Rattle.reply_lines.specs.Pieces.{run}
use Rattle.reply_lines.specs.Prints.{Prints}
use Rattle.grounds_steps.specs.Steps.{most_steps}
use Rattle.writer.proofs.Controls.{lullaby, lullaby-short, reply-is, no-stepless}
use Rattle.grounds_lines.specs.Lines.{size_at}
use Rattle.grounds_lines.specs.Filling.{step_count, item_count, line_in, frames_from, Fills}
use Rattle.grounds_lines.specs.Opening.{Opens, long, replies}
use Rattle.grounds_lines.specs.declared.Filled.{Filled}
use Rattle.grounds_lines.specs.declared.opening.Opened.{Opened}
use Rattle.grounds_lines.proofs.Frames.{length-item, size_step, size-end}
use Rattle.grounds_lines.proofs.Filling.{fills-on}
use Rattle.grounds_lines.proofs.Output.{opened-steps}

size-some : (n p : ℕ) → 0 < size_at n p
size-some n p = go (ltb p n) refl
  where
    go : (b : Bool) → ltb p n ≡ b → 0 < size_at n p
    go true e = omega (arith, size_step n p (ltb-true p n e))
    go false e = omega (arith, size-end n p (ltb-false p n e))

-- frames with a line are not empty
run-some : (steps : List (List ℕ)) (many : ℕ) (d : Conclusions) (k : ℕ) → 0 < k → run (line_in steps many d) 0 k ≡ [] → ⊥
unfolding run
run-some steps many d zero h e = omega arith
run-some steps many d (suc k) h e =
    let n : ℕ = step_count steps many in
    omega (
      arith,
      ap length e,
      length-append (line_in steps many d 0) (run (line_in steps many d) 1 k),
      length-item steps n d 0,
      size-some n 0,
    )

module _ (steps : List (List ℕ)) (roomy : most_steps ≤ length steps) (o : Opened) where
  pub some-line : (x : List (List ℕ)) → Opens lullaby steps o x → Prints (bytes "08020001\n") o.line.bytes o.line.len
  unfolding printed frame hex digit_of code_of values_of bytes
  some-line x (long h p e) = absurd (omega (arith, lullaby-short))
  some-line x (replies few r a w p e) =
      subst (λ (u : Reply). Prints (printed u) o.line.bytes o.line.len) (reply-is steps roomy r a w) p

  pub no-frameless : (x : List (List ℕ)) → Opens lullaby steps o x → frames_from x o.steps o.conclusions o.literals 0 ≡ [] → ⊥
  no-frameless x (long h p e) f = omega (arith, lullaby-short)
  no-frameless x (replies few r a w p e) f =
      run-some a o.steps o.conclusions (item_count a o.steps o.literals - 0)
      (omega (arith, opened-steps lullaby steps o a roomy (replies few r a w p e), some o.steps refl))
      f
    where
      some : (n : ℕ) → o.steps ≡ n → 0 < o.steps
      some zero q = absurd (no-stepless steps roomy r a w (sym e.steps ∙ q))
      some (suc n) q = omega arith

pub no-idle : (steps : List (List ℕ)) (many : ℕ) (d : Conclusions) (literals from : ℕ) (lent : List ℕ) (r : Filled) (after : List ℕ) → 51 ≤ length lent
    → from < item_count steps many literals
    → Fills steps many d literals from lent r after
    → r.next ≡ from
    → ⊥
no-idle steps many d literals from lent r after room left w e =
    omega (arith, w.next, fills-on steps many d literals from (length lent) room left)
