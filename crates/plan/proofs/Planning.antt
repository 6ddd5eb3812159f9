-- From well-formed columns to the plan, and that there is one plan alone.
--     rule-fit, literals-named     what the steps ask
--     plan-made                    what the steps give is the plan
--     plans-one                    two answers that meet the contract are equal
-- Assumes nothing.
use mathlib.Core.Bool.{Bool, true, false}
use mathlib.Core.List.{List}
use mathlib.Core.Path.{◌≡◌, refl, sym, ap, ◌∙◌}
use Prim.Native.Nat.{ℕ, ◌≤◌, ◌<◌}
use native.Mathlib.Omega.{arith}
use lib.Dec.{ltb}
use borrow.Author.Tests.{ltb-true, ltb-false}
use lib.ListN.{length, get_or, take}
use lib.Seq.{ext_get_or, get_or-take}
use Rattle.meaning.specs.Rules.{Clause, variables}
use Rattle.meaning.specs.Columns.{patterns_from, literals_from, clause_from}
use Rattle.meaning.specs.Values.{levels}
use Rattle.columns.specs.Fit.{Every, NamedAt, Written, FitClause}
use Rattle.columns.proofs.Flat.{fit-literals}
use Rattle.std.specs.Prelude.{Option, Some}
use Rattle.plan.specs.declared.Plan.{Plan}
use Rattle.plan.specs.Planning.{RuleFit, Levelled, up_to, Arranged}
use Rattle.plan.specs.Reach.{never}
use Rattle.plan.specs.Plans.{Frees, Planned, Plans, fits, unfits}
use Rattle.plan.specs.Marks.{Named}
use Rattle.plan.proofs.Levels.{levels-are}

-- ---- the plan

module _ {shapes heads arities subs : List ℕ} {patterns : ℕ} {signs firsts seconds : List ℕ} {literals : ℕ}
    (f : FitClause shapes heads arities subs patterns signs firsts seconds literals) where
  pub rule-fit : Written shapes heads arities subs patterns → RuleFit shapes heads arities subs patterns
  rule-fit w = record { few = f.patterns-few; written = w }

  pub literals-named : Named firsts seconds literals
  literals-named =
      let e : Every literals (NamedAt firsts seconds patterns) = fit-literals shapes heads arities subs patterns signs firsts seconds literals f in
      record {
        few = f.literals-few;
        sides = record { each = λ j l. record { left = omega (arith, (e.each j l).left, f.patterns-few); right = omega (arith, (e.each j l).right, f.patterns-few) } };
      }

  pub plan-made : (w : Written shapes heads arities subs patterns) (ls order ends free : List ℕ) (vars : ℕ) (b : Bool)
      → Levelled (levels (patterns_from shapes heads arities subs patterns)) ls → Arranged (take patterns ls) order ends
      → vars ≡ variables (patterns_from shapes heads arities subs patterns)
      → Frees (clause_from shapes heads arities subs patterns signs firsts seconds literals) free → b ≡ never (literals_from signs firsts seconds literals)
      → Planned shapes heads arities subs patterns signs firsts seconds literals
      (record { variables = vars; levels = ls; order = order; ends = ends; free = free; never = b })
  plan-made w ls order ends free vars b l a v g n =
      record {
        written = w;
        counted = v;
        levelled = l;
        arranged = rw (levels-are shapes heads arities subs patterns ls f.patterns-few l) at a;
        frees = g;
        refuted = n;
      }

-- ---- two plans

levelled-one : {ls a b : List ℕ} → Levelled ls a → Levelled ls b → a ≡ b
levelled-one {ls} {a} {b} x y = ext_get_or 0 a b (x.long ∙ sym y.long) (λ i h. x.same i ∙ sym (y.same i))

frees-one : {k : Clause} {a b : List ℕ} → Frees k a → Frees k b → a ≡ b
frees-one {k} {a} {b} x y =
    ext_get_or 0 a b (x.long ∙ sym y.long) (λ i h. let l : i < 4 = omega (arith, x.long) in x.each i l ∙ sym (y.each i l))

module _ {ls order ends : List ℕ} (x : Arranged ls order ends) where
  order-at : (i : ℕ) → i < length (up_to ls 5) → get_or order i 0 ≡ get_or (up_to ls 5) i 0
  order-at i h = sym (get_or-take (length (up_to ls 5)) order i 0 h) ∙ ap (λ l. get_or l i 0) x.front

  module _ {order' ends' : List ℕ} (y : Arranged ls order' ends') where
    ends-one : ends ≡ ends'
    ends-one = ext_get_or 0 ends ends' (x.six ∙ sym y.six) (λ i h. let l : i ≤ 5 = omega (arith, x.six) in x.count i l ∙ sym (y.count i l))

module _ {ls order ends order' ends' : List ℕ} (x : Arranged ls order ends) (y : Arranged ls order' ends') where
  order-one : order ≡ order'
  order-one = ext_get_or 0 order order' (x.long ∙ sym y.long) (λ i h. go i (ltb i (length (up_to ls 5))) refl)
    where
      go : (i : ℕ) (b : Bool) → ltb i (length (up_to ls 5)) ≡ b → get_or order i 0 ≡ get_or order' i 0
      go i true e = let l : i < length (up_to ls 5) = ltb-true i (length (up_to ls 5)) e in order-at x i l ∙ sym (order-at y i l)
      go i false e = let l : length (up_to ls 5) ≤ i = ltb-false i (length (up_to ls 5)) e in x.past i l ∙ sym (y.past i l)

plan-same : (r s : Plan) → r.variables ≡ s.variables → r.levels ≡ s.levels → r.order ≡ s.order → r.ends ≡ s.ends → r.free ≡ s.free
    → r.never ≡ s.never → r ≡ s
plan-same r s b c d e f g =
    ap (λ x. record { variables = x; levels = r.levels; order = r.order; ends = r.ends; free = r.free; never = r.never }) b
    ∙ rw (c, d, e, f, g)

module _ {shapes heads arities subs : List ℕ} {patterns : ℕ} {signs firsts seconds : List ℕ} {literals : ℕ} where
  planned-one : {r s : Plan} → Planned shapes heads arities subs patterns signs firsts seconds literals r → Planned shapes heads arities subs patterns signs firsts seconds literals s → r ≡ s
  planned-one {r} {s} x y =
      plan-same r s (x.counted ∙ sym y.counted) (levelled-one x.levelled y.levelled) (order-one x.arranged y.arranged)
      (ends-one x.arranged y.arranged) (frees-one x.frees y.frees) (x.refuted ∙ sym y.refuted)

  pub plans-one : {r s : Option Plan} → Plans shapes heads arities subs patterns signs firsts seconds literals r → Plans shapes heads arities subs patterns signs firsts seconds literals s → r ≡ s
  plans-one (fits f x) (fits g y) = ap Some (planned-one x y)
  plans-one (fits f x) (unfits n) = absurd (n f)
  plans-one (unfits n) (fits f x) = absurd (n f)
  plans-one (unfits n) (unfits m) = refl
