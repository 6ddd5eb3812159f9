-- What `verify` prints is what it has to print.
--     verify-prints   the line for an input that was taken in whole is the one that the definition asks for
--     reply-one       two lines for what was taken in are equal
-- Assumes nothing.
use mathlib.Core.Bool.{Bool, true, false}
use mathlib.Core.List.{List, [], ◌∷◌, append-nil}
use mathlib.Core.Path.{◌≡◌, refl, ap, sym, ◌∙◌, subst}
use Prim.Native.Nat.{ℕ, suc, ◌%◌, ◌≤◌, ◌<◌}
use Rattle.std.specs.Prelude.{Ok, Err}
use native.Mathlib.Omega.{arith}
use lib.Dec.{ltb}
use borrow.Author.Tests.{ltb-true, ltb-false}
use lib.ListN.{length, take, drop}
use Rattle.meaning.specs.Context.{Context}
use Rattle.meaning.specs.Rules.{Pattern, variable, apply, variables, Clause}
use Rattle.meaning.specs.Text.{narrow}
use Rattle.meaning.specs.Writing.{frame}
use Rattle.meaning.specs.Replies.{refusal, input_limit}
use Rattle.meaning.specs.Grounds.{Step, Conclusion, conclusion_for, Verdict, accepted, unassigned, bad, unconcluded, case_of, details_of, Concludes, literal_at, Verified, accepts, unassigns, refuses, leaves-open}
use Rattle.meaning.proofs.Lines.{Each}
use Rattle.meaning.proofs.Kept.{PatternFits, read_kept}
use Rattle.grounds_verdict.specs.Claims.{verdict_of}
use Rattle.runs.specs.Limits.{most_literals}
use Rattle.grounds_steps.specs.Steps.{steps_of}
use Rattle.grounds_verdict.proofs.Concluding.{conclusions-at}
use Rattle.grounds_judgement.specs.Judgements.{Judgement, judged, refused, Weighed, empty, clashes, weighs, Judges, faults, judges}
use Rattle.grounds_judgement.specs.Claims.{Outcome, judgement_of, concluded_in}
use Rattle.grounds_judgement.proofs.Answers.{judges-one}
use Rattle.grounds_intake.specs.Parsing.{text_of, ground_lines, places_in, conclusions_in}
use Rattle.grounds_intake.specs.Machine.{Memory}
use Rattle.grounds_intake.specs.declared.Parser.{Parser}
use Rattle.grounds_intake.proofs.Filled.{Sized, stored-all}
use Rattle.grounds_intake.proofs.Noting.{notes-count}
use Rattle.grounds_intake.proofs.Standing.{Parsed}
use Rattle.grounds_replies.specs.Replies.{bytes_of, printed, step_limit, given_in, VerifyPrints, long, many, judges as judged-as}
use Rattle.grounds_replies.specs.Claims.{lowest, line_of, PrintsFor, over, past, answers}
use Rattle.reply_lines.specs.Prints.{Prints}
use Rattle.reply_lines.specs.declared.Line.{Line}
use Rattle.reply_lines.proofs.Printing.{line-one}

-- ---- sizes

past-most : (most n size : ℕ) → Sized (suc most) n size → most < size → most < n
past-most most n size s h = go (ltb n (suc most)) refl
  where
    go : (c : Bool) → ltb n (suc most) ≡ c → most < n
    go true q = omega (arith, s.exact (ltb-true n (suc most) q))
    go false q = omega (arith, ltb-false n (suc most) q)

within-most : (most n size : ℕ) → Sized (suc most) n size → size ≤ most → n ≤ most
within-most most n size s h = go (ltb n (suc most)) refl
  where
    go : (c : Bool) → ltb n (suc most) ≡ c → n ≤ most
    go true q = omega (arith, ltb-true n (suc most) q)
    go false q = omega (arith, s.full (ltb-false n (suc most) q))

-- ---- the same conclusions for the literals that there are

module _ (a : List ℕ) (steps : List Step) (ds es : List Conclusion) where
  abbrev Alike : ℕ → Type 0
  Alike n = (i : ℕ) → i < n → conclusion_for (suc i) ds ≡ conclusion_for (suc i) es

  module _ (c : Context) (k : Clause) (alike : Alike (length k.literals)) where
    there : (i : ℕ) → i < length k.literals → Concludes c k a steps (suc i) (conclusion_for (suc i) ds) (literal_at k.literals i)
        → Concludes c k a steps (suc i) (conclusion_for (suc i) es) (literal_at k.literals i)
    there i h w = subst (λ (d : Conclusion). Concludes c k a steps (suc i) d (literal_at k.literals i)) (alike i h) w

    back : (i : ℕ) → i < length k.literals → Concludes c k a steps (suc i) (conclusion_for (suc i) es) (literal_at k.literals i)
        → Concludes c k a steps (suc i) (conclusion_for (suc i) ds) (literal_at k.literals i)
    back i h w = subst (λ (d : Conclusion). Concludes c k a steps (suc i) d (literal_at k.literals i)) (sym (alike i h)) w

    verified-alike : (v : Verdict) → Verified c k a steps ds v → Verified c k a steps es v
    verified-alike v (accepts x y z) = accepts x y (λ i h. there i h (z i h))
    verified-alike v (unassigns i f) = unassigns i (record { inside = f.inside; fails = f.fails; before = f.before })
    verified-alike v (refuses x i f) = refuses x i (record { inside = f.inside; fails = f.fails; before = f.before })
    verified-alike v (leaves-open x y i f) =
        leaves-open x y i
        (record { inside = f.inside; fails = λ w. f.fails (back i f.inside w); before = λ j h. there j (omega (arith, f.inside)) (f.before j h) })

    weighed-alike : (j : Judgement) → Weighed a steps ds c k j → Weighed a steps es c k j
    weighed-alike j (empty e) = empty e
    weighed-alike j (clashes e n w) = clashes e n w
    weighed-alike j (weighs e w v z) = weighs e w v (verified-alike v z)

  judges-alike : (text : List ℕ) (j : Judgement) → Alike most_literals → Judges a steps ds narrow text j → Judges a steps es narrow text j
  judges-alike text j f (faults x e) = faults x e
  judges-alike text j f (judges s e x w) =
      judges s e j (weighed-alike s.ledger.context s.clause (λ i h. f i (omega (arith, (read_kept narrow text s e).clause_fits.few_literals))) j w)

-- ---- a verdict's values are bytes

variables-few : (ps : List Pattern) → Each (PatternFits narrow) ps → variables ps ≤ 4
unfolding variables
variables-few [] e = omega arith
variables-few (variable v ∷ ps) e = omega (arith, e.0, variables-few ps e.1)
variables-few (apply f l ∷ ps) e = variables-few ps e.1

module _ (a : List ℕ) (steps : List Step) (ds : List Conclusion) (text : List ℕ) where
  unassigned-small : (v : ℕ) → Judges a steps ds narrow text (judged (unassigned v)) → v < 256
  unassigned-small v (judges s e x (weighs f w u (unassigns i k))) = omega (arith, k.inside, variables-few s.clause.patterns (read_kept narrow text s e).clause_fits.patterns_fit)

  unconcluded-small : (v : ℕ) → Judges a steps ds narrow text (judged (unconcluded v)) → v < 256
  unconcluded-small v (judges s e x (weighs f w u (leaves-open y z i k))) = omega (arith, k.inside, (read_kept narrow text s e).clause_fits.few_literals)

  details-bytes : (v : Verdict) → Judges a steps ds narrow text (judged v) → lowest (details_of v) ≡ details_of v
  unfolding details_of
  details-bytes accepted w = refl
  details-bytes (unassigned v) w = let h : v < 256 = unassigned-small v w in let e : v % 256 ≡ v = omega arith in rw e
  details-bytes (unconcluded v) w = let h : v < 256 = unconcluded-small v w in let e : v % 256 ≡ v = omega arith in rw e
  details-bytes (bad n) w = simp twice
    where
      twice : (x : ℕ) → x % 256 % 256 ≡ x % 256
      twice x = omega arith

  line-is : (o : Outcome) → Judges a steps ds narrow text (judgement_of o) → line_of o ≡ printed (judgement_of o)
  unfolding printed bytes_of
  line-is (Ok x) w = ap (λ (l : List ℕ). frame (11 ∷ case_of (verdict_of x) ∷ l)) (details-bytes (verdict_of x) w)
  line-is (Err x) w = refl

-- ---- the line

pub verify-prints : (input : List ℕ) (m : Memory) (r : Line) → Parsed input m → PrintsFor m.parser m.text m.steps r
    → (line : List ℕ) × VerifyPrints narrow input line × Prints line r.bytes r.len
verify-prints input m r w (over h p) = (printed (refused (refusal 11 0)), long (past-most input_limit (length (text_of input)) m.parser.head.size w.sized h), p)
verify-prints input m r w (past h k p) = (printed (refused (refusal 11 0)), many (past-most step_limit (length (given_in input)) m.parser.steps w.gathered.counted k), p)
verify-prints input m r w (answers h k o q p) =
    (printed (judgement_of o), judged-as (within-most input_limit (length (text_of input)) m.parser.head.size w.sized h) (within-most step_limit (length (given_in input)) m.parser.steps w.gathered.counted k) (judgement_of o) judged-so, subst (λ (l : List ℕ). Prints l r.bytes r.len) (line-is (places_in (ground_lines input)) (steps_of (given_in input)) (conclusions_in (drop 1 (ground_lines input))) (text_of input) o judged-so) p)
  where
    text-is : take m.parser.head.size m.text ≡ text_of input
    text-is = stored-all 0 input_limit m.text (text_of input) m.parser.head.size w.sized w.text h

    steps-are : take m.parser.steps m.steps ≡ given_in input
    steps-are = stored-all [] step_limit m.steps (given_in input) m.parser.steps w.gathered.counted w.gathered.stored k

    alike : (i : ℕ) → i < most_literals → conclusion_for (suc i) (concluded_in m.parser.noted.conclusions) ≡ conclusion_for (suc i) (conclusions_in (drop 1 (ground_lines input)))
    alike i l =
        ap (conclusion_for (suc i)) (sym (append-nil (concluded_in m.parser.noted.conclusions)))
        ∙ conclusions-at m.parser.noted.conclusions.firsts m.parser.noted.conclusions.differences most_literals i [] l
        ∙ notes-count m.parser.noted (conclusions_in (drop 1 (ground_lines input))) w.gathered.notes i l

    judged-so : Judges (places_in (ground_lines input)) (steps_of (given_in input)) (conclusions_in (drop 1 (ground_lines input))) narrow (text_of input) (judgement_of o)
    judged-so =
        judges-alike (places_in (ground_lines input)) (steps_of (given_in input)) (concluded_in m.parser.noted.conclusions) (conclusions_in (drop 1 (ground_lines input))) (text_of input) (judgement_of o) alike
        (rw (← w.places, ← steps-are, ← text-is) q.judges.judges)

-- ---- one line

pub reply-one : (p : Parser) (text : List ℕ) (steps : List (List ℕ)) (r s : Line) → PrintsFor p text steps r → PrintsFor p text steps s → r ≡ s
reply-one p text steps r s (over h x) (over k y) = line-one r s x y
reply-one p text steps r s (over h x) (past k l y) = absurd (omega arith)
reply-one p text steps r s (over h x) (answers k l o w y) = absurd (omega arith)
reply-one p text steps r s (past h i x) (over k y) = absurd (omega arith)
reply-one p text steps r s (past h i x) (past k l y) = line-one r s x y
reply-one p text steps r s (past h i x) (answers k l o w y) = absurd (omega arith)
reply-one p text steps r s (answers h i o w x) (over k y) = absurd (omega arith)
reply-one p text steps r s (answers h i o w x) (past k l y) = absurd (omega arith)
reply-one p text steps r s (answers h i o w x) (answers k l u v y) =
    let e : o ≡ u = judges-one (take p.head.size text) p.places (take p.steps steps) p.noted.conclusions o u w.judges v.judges in
    line-one r s (subst (λ (z : Outcome). Prints (line_of z) r.bytes r.len) e x) y
