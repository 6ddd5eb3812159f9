-- The ways out of `open`, and what its line is.
--     line-told                             the line of the writer's outcome is that of its reply
--     opened-long, opened-written           an input that is too long; the writer's answer
--     opened-found                          with space for 278,528 steps the line is the finder program's
--     opened-steps                          and every step is printed
--     opened-alone                          without a breach nothing is printed after the line
-- Assumes nothing.
use mathlib.Core.List.{List, []}
use mathlib.Core.Path.{◌≡◌, refl, sym, ap, subst, ◌∙◌}
use Prim.Native.Nat.{ℕ, ◌-◌, ◌≤◌, ◌<◌}
use native.Mathlib.Omega.{arith}
use borrow.Author.Rules.{rules}
use lib.ListN.{length}
use Rattle.meaning.specs.Rules.{found, nothing}
use Rattle.meaning.specs.Text as M
use Rattle.meaning.specs.Text.{narrow}
use Rattle.meaning.specs.Replies.{Reply, breach, none, refused, refusal, printed, places_of, input_limit, Replies, FindPrints}
use Rattle.meaning.specs.Replies as R
use Rattle.meaning.proofs.Answered.{replies-one}
use Rattle.replies.specs.Told.{meant, told_by, told_of}
use Rattle.replies.specs.declared.Refusal.{Refusal}
use Rattle.replies.specs.declared.Outcome.{Outcome}
use Rattle.replies.specs.declared.Outcome.TheVariants as O
use Rattle.reply_lines.specs.Pieces.{run}
use Rattle.reply_lines.specs.Prints.{Prints, line_by}
use Rattle.reply_lines.specs.declared.Line.{Line}
use Rattle.outputs.specs.Claims.{PrintsFound}
use Rattle.outputs.proofs.Printing.{prints-reply}
use Rattle.grounds_verdict.specs.declared.Conclusions.{Conclusions}
use Rattle.writer.specs.Claims as W
use Rattle.grounds_steps.specs.Steps.{most_steps}
use Rattle.writer.specs.Claims.{no_conclusions, Answers, Bare, Leaves, Writes}
use Rattle.writer.specs.declared.Grounds.{Grounds}
use Rattle.grounds_lines.specs.declared.opening.Opened.{Opened}
use Rattle.grounds_lines.specs.Filling.{step_count, item_count, line_in, frames_from}
use Rattle.grounds_lines.specs.Opening.{Opens, long, replies}

-- ---- the line of a reply

-- a refusal's line
refused-line : (x : Refusal) (f : M.Refusal) → told_by (O.Refused x) ≡ told_of (refused f) → meant x ≡ f
refused-line x f v =
    let n : x.number ≡ f.number = cc in let l : x.line ≡ f.place = cc in let o : x.offset ≡ f.offset = cc in rw (n, l, o)

-- the finder program's line is that of the finder's reply
found-line : (input : List ℕ) (r : Line) → length input ≤ input_limit → PrintsFound input r → (y : Reply) → Replies narrow input y → Prints (printed y) r.bytes r.len
found-line input r few p y w = go p.line p.prints p.front
  where
    go : (l : List ℕ) → FindPrints narrow input l → Prints l r.bytes r.len → Prints (printed y) r.bytes r.len
    go l (R.long h) f = absurd (omega arith)
    go l (R.replies h s v) f = subst (λ (z : Reply). Prints (printed z) r.bytes r.len) (replies-one narrow input s y v w) f

module _ (input : List ℕ) (r : Line) (few : length input ≤ input_limit) (outcome : Outcome) (places : List ℕ)
    (p : Prints (line_by outcome places) r.bytes r.len) where
  -- a reply of the finder
  finds-line : (y : Reply) → Replies narrow input y → told_by outcome ≡ told_of y → places ≡ places_of y → Prints (printed y) r.bytes r.len
  finds-line y w t q =
      found-line input r few
      (prints-reply input r few (record { outcome = outcome; places = places }) (record { reply = y; replies = w; told = t; places = q }) p)
      y w

  -- refusal 10, which the finder does not have
  lacks-line : (f : M.Refusal) → told_by outcome ≡ told_of (refused f) → Prints (printed (refused f)) r.bytes r.len
  lacks-line f t = go outcome refl
    where
      go : (o : Outcome) → outcome ≡ o → Prints (printed (refused f)) r.bytes r.len
      go (O.Breach n) e = absurd (let v : told_by (O.Breach n) ≡ told_of (refused f) = sym (ap told_by e) ∙ t in let z : ◌≡◌ {A = ℕ} 8 10 = cc in omega arith)
      go O.Clear e = absurd (let v : told_by O.Clear ≡ told_of (refused f) = sym (ap told_by e) ∙ t in let z : ◌≡◌ {A = ℕ} 9 10 = cc in omega arith)
      go (O.Refused x) e =
          subst (λ (g : M.Refusal). Prints (printed (refused g)) r.bytes r.len) (refused-line x f (sym (ap told_by e) ∙ t))
          (subst (λ (o : Outcome). Prints (line_by o places) r.bytes r.len) e p)

  pub line-told : (room : ℕ) (y : Reply) → Answers input room y → told_by outcome ≡ told_of y → places ≡ places_of y → Prints (printed y) r.bytes r.len
  line-told room y (W.refuses f w) t q = finds-line (refused f) w t q
  line-told room y (W.lacks a w h) t q = lacks-line (refusal 10 0) t
  line-told room y (W.replies (found a) w h) t q = finds-line (breach a) w t q
  line-told room y (W.replies nothing w h) t q = finds-line none w t q

-- ---- the ways out

module _ (input : List ℕ) (steps : List (List ℕ)) (line : Line) (conclusions : Conclusions) where
  pub opened-long : input_limit < length input → Prints (printed (refused (refusal 11 0))) line.bytes line.len → conclusions ≡ no_conclusions
      → Opens input steps (record { line = line; steps = 0; literals = 0; conclusions = conclusions }) steps
  opened-long h p e = long h p (record { steps = refl; literals = refl; conclusions = e })

pub opened-written : (input : List ℕ) (steps : List (List ℕ)) (steps' : List (List ℕ)) (line : Line) (r : Grounds) → length input ≤ input_limit
    → Writes input steps r steps' → Prints (line_by r.outcome r.places) line.bytes line.len
    → Opens input steps (record { line = line; steps = r.steps; literals = r.literals; conclusions = r.conclusions }) steps'
opened-written input steps steps' line r few w p =
    replies few r steps' w
    (line-told input line few r.outcome r.places p (length steps) w.reply w.answers w.told w.places)
    (record { steps = refl; literals = refl; conclusions = refl })

pub ruleset mine = (rules, opened-long, opened-written)

-- ---- what is printed

module _ (input : List ℕ) (steps : List (List ℕ)) (o : Opened) where
  pub opened-found : (steps' : List (List ℕ)) → most_steps ≤ length steps → Opens input steps o steps' → PrintsFound input o.line
  opened-found steps' room (long h p e) = record { line = printed (refused (refusal 11 0)); prints = R.long h; front = p }
  opened-found steps' room (replies few r a w p e) = go w.reply w.answers p
    where
      go : (y : Reply) → Answers input (length steps) y → Prints (printed y) o.line.bytes o.line.len → PrintsFound input o.line
      go y (W.refuses f v) q = record { line = printed (refused f); prints = R.replies few (refused f) v; front = q }
      go y (W.lacks f v h) q = absurd (omega arith)
      go y (W.replies f v h) q = record { line = printed (R.reply_of f); prints = R.replies few (R.reply_of f) v; front = q }

  -- no line
  frames-none : (steps' : List (List ℕ)) → o.steps ≡ 0 → o.literals ≡ 0 → frames_from steps' o.steps o.conclusions o.literals 0 ≡ []
  unfolding run
  frames-none steps' p q =
      let e : item_count steps' o.steps o.literals - 0 ≡ 0 = omega arith in
      ap (run (line_in steps' o.steps o.conclusions) 0) e

  pub opened-alone : (steps' : List (List ℕ)) → Opens input steps o steps' → ((a : List ℕ) → Replies narrow input (breach a) → ⊥)
      → frames_from steps' o.steps o.conclusions o.literals 0 ≡ []
  opened-alone steps' (long h p e) None-found = frames-none steps e.steps e.literals
  opened-alone steps' (replies few r a w p e) None-found = go w.reply w.answers w.leaves
    where
      bare : Bare steps r a → frames_from a o.steps o.conclusions o.literals 0 ≡ []
      bare x = frames-none a (e.steps ∙ x.count) (e.literals ∙ x.literals)

      go : (y : Reply) → Answers input (length steps) y → Leaves steps r a input y
          → frames_from a o.steps o.conclusions o.literals 0 ≡ []
      go y (W.refuses f v) x = bare x
      go y (W.lacks f v h) x = bare x
      go y (W.replies (found z) v h) x = absurd (None-found z v)
      go y (W.replies nothing v h) x = bare x

  pub opened-steps : (steps' : List (List ℕ)) → most_steps ≤ length steps → Opens input steps o steps'
      → step_count steps' o.steps ≡ o.steps
  opened-steps steps' room (long h p e) = omega (arith, e.steps)
  opened-steps steps' room (replies few r a w p e) = go w.reply w.leaves
    where
      bare : Bare steps r a → step_count a o.steps ≡ o.steps
      bare x = omega (arith, e.steps, x.count)

      go : (y : Reply) → Leaves steps r a input y → step_count a o.steps ≡ o.steps
      go (breach z) x = omega (arith, e.steps, x.shown.few, x.shown.words.long)
      go none x = bare x
      go (refused f) x = bare x
