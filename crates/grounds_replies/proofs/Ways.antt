-- The line by each way out of the code.
--     mine    what the functions leave to show
-- Assumes nothing.
use mathlib.Core.Bool.{Bool, true, false}
use mathlib.Core.List.{List, [], ◌∷◌}
use mathlib.Core.Logic.{◌⊎◌, inl, inr}
use mathlib.Core.Path.{◌≡◌, refl, ap, sym, ◌∙◌}
use Prim.Native.Nat.{ℕ, ◌/◌, ◌%◌, ◌≤◌, ◌<◌, min}
use native.Mathlib.Omega.{arith}
use borrow.Author.Rules.{rules}
use lib.Dec.{ltb}
use borrow.Author.Tests.{ltb-true, ltb-false}
use lib.ListN.{length, take}
use lib.Seq.{take_all, take-length}
use Rattle.meaning.specs.Grounds.{case_of, details_of}
use Rattle.meaning.specs.Text as M
use Rattle.meaning.specs.Replies as R
use Rattle.meaning.specs.Replies.{refusal, input_limit}
use Rattle.meaning.specs.Writing.{frame}
use Rattle.std.specs.Prelude.{Result, Ok, Err}
use Rattle.grounds_verdict.specs.declared.Fault.{Fault}
use Rattle.grounds_verdict.specs.declared.Fault.TheVariants.{Unassigned, Bad, Unconcluded}
use Rattle.grounds_verdict.specs.Claims.{fault_of, verdict_of}
use Rattle.replies.specs.declared.Refusal.{Refusal}
use Rattle.replies.specs.Told.{meant}
use Rattle.grounds_judgement.specs.Judgements.{refused}
use Rattle.grounds_judgement.specs.Claims.{Outcome, JudgesTo}
use Rattle.grounds_intake.specs.declared.Parser.{Parser}
use Rattle.grounds_replies.specs.Replies.{bytes_of, printed, step_limit}
use Rattle.grounds_replies.specs.Claims.{verdict_line, line_of, Answered, PrintsFor, over, past, answers}
use Rattle.reply_lines.specs.Prints.{Prints}
use Rattle.reply_lines.specs.declared.Line.{Line}

-- ---- a judgement's line

pub accepted-line : (v : Result (Unit {0}) Fault) (bytes : List ℕ) (len : ℕ) → v ≡ Ok tt → Prints (frame (take 2 (11 ∷ 0 ∷ 0 ∷ 0 ∷ 0 ∷ 0 ∷ 0 ∷ 0 ∷ []))) bytes len
    → Prints (verdict_line (verdict_of v)) bytes len
unfolding case_of details_of
accepted-line v bytes len e p = rw e p

pub faulty-line : (v : Result (Unit {0}) Fault) (bytes : List ℕ) (len : ℕ) (f : Fault) → v ≡ Err f → Prints (verdict_line (fault_of f)) bytes len
    → Prints (verdict_line (verdict_of v)) bytes len
faulty-line v bytes len f e p = rw e p

module _ (a : Fault) (bytes : List ℕ) (len : ℕ) where
  pub unassigned-line : (v x : ℕ) → a ≡ Unassigned v → x ≡ v % 256 → Prints (frame (take 3 (11 ∷ 1 ∷ x ∷ 0 ∷ 0 ∷ 0 ∷ 0 ∷ 0 ∷ []))) bytes len → Prints (verdict_line (fault_of a)) bytes len
  unfolding case_of details_of
  unassigned-line v x e f p = rw (e, ← f) p

  pub unconcluded-line : (v x : ℕ) → a ≡ Unconcluded v → x ≡ v % 256 → Prints (frame (take 3 (11 ∷ 3 ∷ x ∷ 0 ∷ 0 ∷ 0 ∷ 0 ∷ 0 ∷ []))) bytes len → Prints (verdict_line (fault_of a)) bytes len
  unfolding case_of details_of
  unconcluded-line v x e f p = rw (e, ← f) p

  pub bad-line : (n x y z w : ℕ) → a ≡ Bad n → x ≡ n / 16777216 % 256 → y ≡ n / 65536 % 256 → z ≡ n / 256 % 256 → w ≡ n % 256
      → Prints (frame (take 6 (11 ∷ 2 ∷ x ∷ y ∷ z ∷ w ∷ 0 ∷ 0 ∷ []))) bytes len
      → Prints (verdict_line (fault_of a)) bytes len
  unfolding case_of details_of
  bad-line n x y z w e f g h i p =
      let k : n / 16777216 % 256 % 256 ≡ x = omega arith in
      let l : n / 65536 % 256 % 256 ≡ y = omega arith in
      let m : n / 256 % 256 % 256 ≡ z = omega arith in
      let o : n % 256 % 256 ≡ w = omega arith in
      rw (e, k, l, m, o) p

-- a refusal's line is the finder's
refused-printed : (x : M.Refusal) → R.printed (R.refused x) ≡ printed (refused x)
unfolding R.printed printed bytes_of
refused-printed x = refl

module _ (o : Outcome) (bytes : List ℕ) (len : ℕ) where
  pub judged-outcome : (a : Result (Unit {0}) Fault) → o ≡ Ok a → Prints (verdict_line (verdict_of a)) bytes len → Prints (line_of o) bytes len
  judged-outcome a e p = rw e p

  pub refused-outcome : (x : Refusal) → o ≡ Err x → Prints (R.printed (R.refused (meant x))) bytes len → Prints (line_of o) bytes len
  refused-outcome x e p = rw (e, ← refused-printed (meant x)) p

-- ---- what was taken in

pub front-is : {A : Type 0} (n m : ℕ) (l : List A) → m ≡ min n (length l) → take m l ≡ take n l
front-is {A} n m l e = ap (λ (x : ℕ). take x l) e ∙ go (ltb n (length l)) refl
  where
    go : (c : Bool) → ltb n (length l) ≡ c → take (min n (length l)) l ≡ take n l
    go true q = let z : min n (length l) ≡ n = omega (arith, ltb-true n (length l) q) in rw z
    go false q = let z : min n (length l) ≡ length l = omega (arith, ltb-false n (length l) q) in rw z (take-length l ∙ sym (take_all n l (ltb-false n (length l) q)))

module _ (p : Parser) (text : List ℕ) (steps : List (List ℕ)) where
  pub answered : (o : Outcome) (t : List ℕ) (x : List (List ℕ)) → t ≡ take p.head.size text → x ≡ take p.steps steps
      → JudgesTo t p.places x p.noted.conclusions o
      → Answered p text steps o
  answered o t x e f w = record { judges = rw (← e, ← f) w }

  module _ (r : Line) where
    pub prints-eleven : (input_limit < p.head.size) ⊎ ((p.head.size ≤ input_limit) × (step_limit < p.steps)) → Prints (R.printed (R.refused (refusal 11 0))) r.bytes r.len
        → PrintsFor p text steps r
    prints-eleven (inl h) w = over h (rw (refused-printed (refusal 11 0)) at w)
    prints-eleven (inr h) w = past h.0 h.1 (rw (refused-printed (refusal 11 0)) at w)

    pub prints-answer : (o : Outcome) → p.head.size ≤ input_limit → p.steps ≤ step_limit → Answered p text steps o → Prints (line_of o) r.bytes r.len
        → PrintsFor p text steps r
    prints-answer o h k w q = answers h k o w q

pub ruleset mine = (
  rules,
  accepted-line,
  faulty-line,
  unassigned-line,
  unconcluded-line,
  bad-line,
  judged-outcome,
  refused-outcome,
  front-is,
  answered,
  prints-eleven,
  prints-answer,
)
