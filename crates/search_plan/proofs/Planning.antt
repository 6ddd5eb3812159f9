-- From a well-formed rule to its plan, and that there is one plan alone.
--     padded-at                       numbers before zeros, read at a place
--     lent-room .. sets-padded        the first places of a run of zeros are lent, and what comes back stands before the others
--     order-room .. order-made        the order of the rows
--     plan-patterns .. sets-named     what the steps ask
--     plan-made, plan-fits            what the steps give is the plan, which is the answer
--     plans-one                       two answers that meet the contract are equal
-- Assumes nothing.
use mathlib.Core.Bool.{Bool, true, false}
use mathlib.Core.List.{List, [], ◌++◌}
use mathlib.Core.Path.{◌≡◌, refl, sym, ap, ap₂, ◌∙◌}
use Prim.Native.Nat.{ℕ, ◌+◌, ◌-◌, ◌≤◌}
use native.Mathlib.Omega.{arith}
use borrow.Author.Rules.{rules}
use borrow.Author.Tests.{ltb-true, ltb-false}
use lib.Dec.{ltb}
use lib.ListN.{length, get_or, take, drop, replicate, length-append, length-take, length-drop, length-replicate, get_or-replicate, take-append-drop, get_or-append, get_or-eq_default}
use lib.Seq.{take_at, get_or-drop, get_or-append-add, ext_get_or}
use Rattle.std.specs.Prelude.{Option, Some}
use Rattle.meaning.specs.Rules.{variables}
use Rattle.meaning.specs.Columns.{pad}
use Rattle.meaning.specs.Values.{levels}
use Rattle.meaning.proofs.Levels.{length-levels}
use Rattle.runs.specs.Limits.{most_patterns}
use Rattle.runs.specs.Runs.{pattern_count, literal_count, patterns_of, literals_of}
use Rattle.runs.specs.Fit.{Every, NamedAt, PatternAt, FitClause}
use Rattle.runs.proofs.Ruled.{fit-patterns, fit-literals}
use Rattle.runs.proofs.Zeros.{drop-zeros}
use Rattle.runs.proofs.Saying.{length-patterns}
use Rattle.search_plan.specs.declared.Plan.{Plan}
use Rattle.search_plan.specs.Asked.{never}
use Rattle.search_plan.specs.Order.{level_count, up_to, ends_of, Blank, Arranged}
use Rattle.search_plan.specs.Steps.{RuleFit}
use Rattle.search_plan.specs.Plans.{Ordered, plan_of, Plans, fits, unfits}
use Rattle.search_plan.specs.Sets.{set_of, sets, reached_by}
use Rattle.search_plan.proofs.Growing.{grow-length, sets-grow}

length-sets : (patterns : List ℕ) → length (sets (patterns_of patterns)) ≡ pattern_count patterns
length-sets patterns = omega (arith, ap length (sets-grow (patterns_of patterns)), grow-length set_of [] (patterns_of patterns), length-patterns patterns)

levels-count : (patterns : List ℕ) → length (levels (patterns_of patterns)) ≡ pattern_count patterns
levels-count patterns = length-levels (patterns_of patterns) ∙ length-patterns patterns

-- ---- runs of zeros

zeros-at : (n p : ℕ) → get_or {A = ℕ} (replicate n 0) p 0 ≡ 0
zeros-at n p = go (ltb p n) refl
  where
    go : (b : Bool) → ltb p n ≡ b → get_or {A = ℕ} (replicate n 0) p 0 ≡ 0
    go true q = get_or-replicate n p 0 0 (ltb-true p n q)
    go false q = let l : length {A = ℕ} (replicate n 0) ≤ p = omega (arith, length-replicate {A = ℕ} n 0, ltb-false p n q) in get_or-eq_default (replicate n 0) 0 l

-- numbers before zeros
pub padded : (xs t : List ℕ) (n m : ℕ) → t ≡ xs → length xs ≡ n → t ++ drop n (replicate m 0) ≡ pad m xs
unfolding pad
padded xs t n m e l = rw (e, drop-zeros n m, l)

pub order-padded : (ls start rows ends : List ℕ) (m : ℕ) → Arranged ls start rows ends → length start ≡ m → rows ≡ pad m (up_to ls level_count)
unfolding pad
order-padded ls start rows ends m a l =
    let u : ℕ = length (up_to ls level_count) in
    sym (take-append-drop u rows)
    ∙ ap₂ ◌++◌ a.front
    (ext_get_or 0 (drop u rows) (replicate (m - u) 0)
    (omega (arith, length-drop u rows, length-replicate {A = ℕ} (m - u) 0, a.long))
    (λ i h. get_or-drop u rows i 0 ∙ a.past (u + i) (omega arith) ∙ sym (zeros-at (m - u) i)))

pub padded-at : (xs : List ℕ) (m p : ℕ) → get_or (pad m xs) p 0 ≡ get_or xs p 0
unfolding pad
padded-at xs m p = go (ltb p (length xs)) refl
  where
    go : (b : Bool) → ltb p (length xs) ≡ b → get_or (pad m xs) p 0 ≡ get_or xs p 0
    go true q = get_or-append xs (replicate (m - length xs) 0) 0 p (ltb-true p (length xs) q)
    go false q =
        let l : length xs ≤ p = ltb-false p (length xs) q in
        let e : p ≡ length xs + (p - length xs) = omega arith in
        ap (λ (i : ℕ). get_or (xs ++ replicate (m - length xs) 0) i 0) e
        ∙ get_or-append-add xs (replicate (m - length xs) 0) (p - length xs) 0
        ∙ zeros-at (m - length xs) (p - length xs)
        ∙ sym (get_or-eq_default xs 0 l)

-- ---- the first places of a run are lent

module _ {patterns : List ℕ} (f : RuleFit patterns) (n : ℕ) (e : n ≡ pattern_count patterns) (own : List ℕ) (z : own ≡ replicate most_patterns 0) where
  long : length own ≡ most_patterns
  long = ap length z ∙ length-replicate {A = ℕ} most_patterns 0

  pub lent-room : n ≤ length own
  lent-room = omega (arith, f.few, long)

  pub lent_same : n ≡ length (take n own)
  lent_same = omega (arith, length-take n own, f.few, long)

  pub lent-count : length (take n own) ≡ pattern_count patterns
  lent-count = omega (arith, lent_same)

  pub levels-padded : (t : List ℕ) → t ≡ levels (patterns_of patterns) → t ++ drop n own ≡ pad most_patterns (levels (patterns_of patterns))
  levels-padded t q = ap (λ (l : List ℕ). t ++ drop n l) z ∙ padded (levels (patterns_of patterns)) t n most_patterns q (levels-count patterns ∙ sym e)

  pub sets-padded : (t : List ℕ) → t ≡ sets (patterns_of patterns) → t ++ drop n own ≡ pad most_patterns (sets (patterns_of patterns))
  sets-padded t q = ap (λ (l : List ℕ). t ++ drop n l) z ∙ padded (sets (patterns_of patterns)) t n most_patterns q (length-sets patterns ∙ sym e)

module _ (ls own : List ℕ) (z : own ≡ replicate most_patterns 0) where
  pub order-long : length own ≡ most_patterns
  order-long = ap length z ∙ length-replicate {A = ℕ} most_patterns 0

  pub order-room : length ls ≤ most_patterns → length ls ≤ length own
  order-room h = omega (arith, order-long)

  pub order-short : length own ≤ most_patterns
  order-short = omega (arith, order-long)

  pub order-blank : Blank own
  order-blank = rw z (record { zeros = zeros-at most_patterns })

  pub order-made : (rows ends : List ℕ) → Arranged ls own rows ends → Ordered ls rows ends
  order-made rows ends a = record { rows = order-padded ls own rows ends most_patterns a order-long; ended = a.ended }

-- ---- what the steps ask

front : (xs r : List ℕ) (n : ℕ) → length xs ≡ n → r ≡ pad most_patterns xs → take n r ≡ xs
unfolding pad
front xs r n l e = rw e (take_at xs (replicate (most_patterns - length xs) 0) n l)

pad-long : (xs r : List ℕ) → length xs ≤ most_patterns → r ≡ pad most_patterns xs → length r ≡ most_patterns
unfolding pad
pad-long xs r h e =
    ap length e ∙ omega (arith, length-append xs (replicate (most_patterns - length xs) 0), length-replicate {A = ℕ} (most_patterns - length xs) 0)

module _ {patterns literals : List ℕ} (f : FitClause patterns literals) where
  pub plan-patterns : Every (pattern_count patterns) (PatternAt patterns)
  plan-patterns = fit-patterns patterns literals f

  pub plan-rule : RuleFit patterns
  plan-rule = record { few = f.patterns-few; placed = plan-patterns }

  module _ (n : ℕ) (e : n ≡ pattern_count patterns) (r : List ℕ) where
    module _ (q : r ≡ pad most_patterns (levels (patterns_of patterns))) where
      pub levels-room : n ≤ length r
      levels-room = omega (arith, pad-long (levels (patterns_of patterns)) r (omega (arith, levels-count patterns, f.patterns-few)) q, f.patterns-few)

      pub levels-same : n ≡ length (take n r)
      levels-same = omega (arith, length-take n r, levels-room)

      pub levels-few : length (take n r) ≤ most_patterns
      levels-few = omega (arith, length-take n r, f.patterns-few)

    module _ (q : r ≡ pad most_patterns (sets (patterns_of patterns))) where
      pub sets-room : n ≤ length r
      sets-room = omega (arith, pad-long (sets (patterns_of patterns)) r (omega (arith, length-sets patterns, f.patterns-few)) q, f.patterns-few)

      pub sets_same : n ≡ length (take n r)
      sets_same = omega (arith, length-take n r, sets-room)

      pub sets-named : Every (literal_count literals) (NamedAt literals (length (take n r)))
      sets-named =
          let w : length (take n r) ≡ pattern_count patterns = omega (arith, length-take n r, sets-room) in rw w (fit-literals patterns literals f)

-- ---- the plan

module _ (patterns literals : List ℕ) where
  pub plan-made : (n v : ℕ) (ls order ends reach : List ℕ) (a : ℕ) (b : Bool) → n ≡ pattern_count patterns → v ≡ variables (patterns_of patterns)
      → ls ≡ pad most_patterns (levels (patterns_of patterns)) → Ordered (take n ls) order ends → reach ≡ pad most_patterns (sets (patterns_of patterns))
      → a ≡ reached_by (take n reach) (literals_of literals) → b ≡ never (literals_of literals)
      → record { variables = v; levels = ls; order = order; ends = ends; reach = reach; asked = a; never = b } ≡ plan_of patterns literals
  plan-made n v ls order ends reach a b hn hv hl ho hr ha hb =
      let s : take n ls ≡ levels (patterns_of patterns) = front (levels (patterns_of patterns)) ls n (levels-count patterns ∙ sym hn) hl in
      let t : take n reach ≡ sets (patterns_of patterns) = front (sets (patterns_of patterns)) reach n (length-sets patterns ∙ sym hn) hr in
      let o : order ≡ pad most_patterns (up_to (levels (patterns_of patterns)) level_count) = ho.rows ∙ ap (λ (l : List ℕ). pad most_patterns (up_to l level_count)) s in
      let e : ends ≡ ends_of (levels (patterns_of patterns)) = ho.ended ∙ ap ends_of s in
      let k : a ≡ reached_by (sets (patterns_of patterns)) (literals_of literals) = ha ∙ ap (λ (l : List ℕ). reached_by l (literals_of literals)) t in
      rw (hv, hl, o, e, hr, k, hb)

  pub plan-fits : (r : Plan) → r ≡ plan_of patterns literals → FitClause patterns literals → Plans patterns literals (Some r)
  plan-fits r e f = rw e (fits f)

  pub plans-one : (r s : Option Plan) → Plans patterns literals r → Plans patterns literals s → r ≡ s
  plans-one r s (fits f) (fits g) = refl
  plans-one r s (fits f) (unfits n) = absurd (n f)
  plans-one r s (unfits n) (fits f) = absurd (n f)
  plans-one r s (unfits n) (unfits m) = refl

pub ruleset mine = (rules, lent-room, lent_same, lent-count, levels-padded, sets-padded, order-room, order-short, order-blank, order-made, plan-patterns, plan-rule, levels-room, levels-same, levels-few, sets-room, sets_same, sets-named, plan-made)
