-- From well-formed columns to what the search asks, and from what it gives to the answer.
--     ready, later-asks               what the search asks
--     finds, finds-none               what it gives is the first breach
--     nexts, nexts-none               and the first after an assignment
--     futile-not, futile-by           whether there can be no breach
--     closes-lent                     the closing and the marks that are lent
--     finds-one, nexts-one            two answers that meet the contract are equal
-- Assumes nothing.
use mathlib.Core.Bool.{Bool, true, false, not}
use mathlib.Core.List.{List, [], ◌∷◌}
use mathlib.Core.Path.{◌≡◌, refl, sym, ap, ap₂, ◌∙◌, subst}
use Prim.Native.Nat.{ℕ, zero, suc, ◌+◌, ◌≤◌, ◌<◌}
use native.Mathlib.Omega.{arith}
use mir.Syntax.{w16}
use mir.Val.{Fits}
use lib.Dec.{eqb}
use lib.ListN.{length, get_or, take, replicate, length-append}
use lib.Seq.{get_or-take}
use Rattle.meaning.specs.Context.{differences_of}
use Rattle.meaning.specs.Equality.{rep_at}
use Rattle.meaning.specs.Rules.{Pattern, variables, Clause, Below, Found, nothing}
use Rattle.meaning.specs.ByTable.{clash_of}
use Rattle.meaning.specs.Columns.{rows_from, statements_from, patterns_from, literals_from, context_from, clause_from}
use Rattle.meaning.specs.Values.{levels, rows_at}
use Rattle.meaning.specs.Following.{differ_by}
use Rattle.meaning.proofs.Logic.{false-true}
use Rattle.meaning.proofs.Lists.{below-append, below_at}
use Rattle.meaning.proofs.Levels.{length-levels}
use Rattle.columns.specs.Fit.{Every, NamedAt, Laid, FitContext, FitClause}
use Rattle.columns.proofs.Flat.{fit-literals}
use Rattle.closing.specs.Claims.{Closes, clashing}
use Rattle.closing.specs.declared.Answer.{Answer}
use Rattle.closing.specs.declared.Answer.TheVariants.{Closed, Unfit}
use Rattle.std.specs.Prelude.{Option, Some, None}
use Rattle.std.specs.Option.{is_some}
use Rattle.plan.specs.declared.Plan.{Plan}
use Rattle.plan.specs.Planning.{up_to, Arranged}
use Rattle.plan.specs.Reach.{free_by, never}
use Rattle.plan.specs.Plans.{mark_of, Plans, Planned as Plan-of}
use Rattle.plan.specs.Plans as P
use Rattle.plan.proofs.Levels.{ps-length, variables-few}
use Rattle.plan.proofs.Order.{up-few}
use Rattle.plan.proofs.Freed.{OfClasses, freed-first, never-none}
use Rattle.meaning.proofs.FollowingNumbers.{differ_by-inside}
use Rattle.further.specs.Marks.{MarksOf}
use Rattle.differing.specs.Knowing.{Lends, ClosedBy}
use Rattle.differing.proofs.Knowing.{rows_are, unlike}
use Rattle.search.specs.declared.Reply.{Reply}
use Rattle.values.specs.Reading.{Listed}
use Rattle.search.specs.Hunting.{stage_of, dead_of, enter_from, rows_of, answer_of, Planned, Ready}
use Rattle.search.specs.Finding.{found_by, later_by, next_of, Futile, unfit_reply, FindsIn, fits, unfits, NextIn, next_fits, next-unfits}
use Rattle.search.proofs.Bridge.{order-front, hunt-free}
use Rattle.search.proofs.Next.{next-none, next-long, next-bump}
use Rattle.search.proofs.Onward.{hunt-next}

named-wider : (lefts rights : List ℕ) (m n count : ℕ) → m ≤ n → Every count (NamedAt lefts rights m) → Every count (NamedAt lefts rights n)
named-wider lefts rights m n count h e =
    record { each = λ j l. record { left = omega (arith, (e.each j l).left); right = omega (arith, (e.each j l).right) } }

-- ---- the order

rows-below : (k i : ℕ) (l : List ℕ) (n : ℕ) → i + length l ≤ n → Below n (rows_at k i l)
unfolding rows_at
rows-below k i [] n h = tt
rows-below k i (x ∷ l) n h = go (eqb x k) refl (rows-below k (suc i) l n (omega arith))
  where
    go : (b : Bool) → eqb x k ≡ b → Below n (rows_at k (suc i) l) → Below n (rows_at k i (x ∷ l))
    go true e w = rw (e, rows_at) (omega arith, w)
    go false e w = rw (e, rows_at) w

up-below : (ls : List ℕ) (k : ℕ) → Below (length ls) (up_to ls k)
unfolding up_to
up-below ls zero = tt
up-below ls (suc k) = below-append (length ls) (up_to ls k) (rows_at k 0 ls) (up-below ls k) (rows-below k 0 ls (length ls) (omega arith))

up_step : (ls : List ℕ) (k : ℕ) → length (up_to ls k) ≤ length (up_to ls (suc k))
unfolding up_to
up_step ls k = omega (arith, length-append (up_to ls k) (rows_at k 0 ls))

planned : (ls order ends : List ℕ) (patterns : ℕ) → length ls ≡ patterns → patterns ≤ 64 → Arranged ls order ends → Planned order ends patterns
planned ls order ends patterns h few a = record { listed = list; rises = rise }
  where
    list : (k : ℕ) → k ≤ 5 → Listed order (get_or ends k 0) patterns
    list k l =
        record {
          long = omega (arith, a.count k l, a.long, up-few ls k);
          short = omega (arith, a.count k l, up-few ls k);
          rows = λ j b.
              let e : get_or order j 0 ≡ get_or (up_to ls k) j 0 = sym (get_or-take (get_or ends k 0) order j 0 b) ∙ ap (λ x. get_or x j 0) (order-front a k l) in
              omega (arith, e, below_at (length ls) (up_to ls k) (up-below ls k) j (omega (arith, a.count k l)));
        }

    rise : (k : ℕ) → k < 5 → get_or ends k 0 ≤ get_or ends (suc k) 0
    rise k l = omega (arith, a.count k (omega arith), a.count (suc k) l, up_step ls k)

-- ---- the plan

plans-fit : {shapes heads arities subs : List ℕ} {patterns : ℕ} {signs firsts seconds : List ℕ} {literals : ℕ} {o : Option Plan} {r : Plan}
    → Plans shapes heads arities subs patterns signs firsts seconds literals o → o ≡ Some r
    → FitClause shapes heads arities subs patterns signs firsts seconds literals × Plan-of shapes heads arities subs patterns signs firsts seconds literals r
plans-fit {shapes} {heads} {arities} {subs} {patterns} {signs} {firsts} {seconds} {literals} {o} {r} (P.fits {r = s} g p) e =
    let q : s ≡ r = cc in (g, subst (Plan-of shapes heads arities subs patterns signs firsts seconds literals) q p)
plans-fit (P.unfits n) e = absurd (cc)

pub plans-unfit : {shapes heads arities subs : List ℕ} {patterns : ℕ} {signs firsts seconds : List ℕ} {literals : ℕ} {o : Option Plan}
    → Plans shapes heads arities subs patterns signs firsts seconds literals o → o ≡ None → FitClause shapes heads arities subs patterns signs firsts seconds literals → ⊥
plans-unfit (P.fits g p) e f = cc
plans-unfit (P.unfits n) e f = n f

mark-read : (b : Bool) → eqb (mark_of b) 1 ≡ b
unfolding mark_of
mark-read true = refl
mark-read false = refl

-- ---- all together

module _ {symbols counts args : List ℕ} {rows : ℕ} {kinds lefts rights : List ℕ} {statements : ℕ} {shapes heads arities subs : List ℕ} {patterns : ℕ}
    {signs firsts seconds : List ℕ} {literals : ℕ} {answer : Option Plan} {plan : Plan}
    (f : FitContext symbols counts args rows kinds lefts rights statements) (laid : Laid counts args rows)
    (plans : Plans shapes heads arities subs patterns signs firsts seconds literals answer) (fit : answer ≡ Some plan) where
  abbrev ps : List Pattern
  ps = patterns_from shapes heads arities subs patterns

  abbrev differs : ℕ → ℕ → Bool
  differs = differ_by (context_from symbols counts args rows kinds lefts rights statements)

  g : FitClause shapes heads arities subs patterns signs firsts seconds literals
  g = (plans-fit plans fit).0

  p : Plan-of shapes heads arities subs patterns signs firsts seconds literals plan
  p = (plans-fit plans fit).1

  ps-few : length ps ≤ 64
  ps-few = omega (arith, ps-length shapes heads arities subs patterns, g.patterns-few)

  few : variables ps ≤ 4
  few = variables-few p.written.placed

  pub ready : Ready counts args rows shapes heads arities subs patterns plan.order plan.ends firsts seconds literals plan.variables
  ready =
      record {
        rows_few = f.rows_few;
        laid = laid;
        rule = record { few = g.patterns-few; written = p.written };
        planned = planned (levels ps) plan.order plan.ends patterns (length-levels ps ∙ ps-length shapes heads arities subs patterns) g.patterns-few p.arranged;
        tested = record { few = g.literals-few; named = named-wider firsts seconds patterns 64 literals g.patterns-few (fit-literals shapes heads arities subs patterns signs firsts seconds literals g) };
        few = omega (arith, few, p.counted);
      }

  pub later-asks : (plan.variables ≡ 0 → ⊥) → (0 < plan.variables) × (plan.variables ≤ 4)
  later-asks n = (omega (arith, n), omega (arith, few, p.counted))

  rows-of : length (rows_from symbols counts args rows) ≡ rows
  unfolding context_from
  rows-of = rows_are symbols counts args rows kinds lefts rights statements

  -- what differs are classes
  classes : OfClasses 65536 differs
  classes n m e =
      let w = differ_by-inside (context_from symbols counts args rows kinds lefts rights statements) n m e in
      let l = rows_are symbols counts args rows kinds lefts rights statements in
      (omega (arith, w.0, l, f.rows_few), omega (arith, w.1, l, f.rows_few))

  module _ (table : List ℕ) where
    -- what the search gives, by the number of rows and of variables
    abbrev hunt_by : (ℕ → ℕ → List ℕ → List ℕ) → ℕ → ℕ → Found
    hunt_by rows_for n v =
        enter_from (stage_of (rows_from symbols counts args rows) (rep_at table) ps plan.order plan.ends) (dead_of differs plan.levels (literals_from signs firsts seconds literals))
        (rows_for n) v 0 (replicate 4 255) (replicate 64 0)

    abbrev Finds : Reply → Type 0
    Finds r = FindsIn symbols counts args rows kinds lefts rights statements table shapes heads arities subs patterns signs firsts seconds literals r

    abbrev Nexts : List ℕ → Reply → Type 0
    Nexts after r = NextIn symbols counts args rows kinds lefts rights statements table shapes heads arities subs patterns signs firsts seconds literals after r

    module _ (closed busy : List ℕ) (lent : ClosedBy symbols counts args rows kinds lefts rights statements closed busy) (b : Bool)
        (u : Futile plan.never (rep_at table) (rep_at closed) (differences_of (statements_from kinds lefts rights statements)) b) where
      pub finds-none : (r : Reply) → b ≡ true → r ≡ answer_of nothing → Finds r
      unfolding context_from clause_from
      finds-none r t q =
          let n : never (literals_from signs firsts seconds literals) ≡ true = sym p.refuted ∙ (u.none t).0 in
          let e : found_by (context_from symbols counts args rows kinds lefts rights statements) table (clause_from shapes heads arities subs patterns signs firsts seconds literals) ≡ nothing =
          never-none (rows_from symbols counts args rows) (rep_at table) 65536 differs (clause_from shapes heads arities subs patterns signs firsts seconds literals)
          (unlike symbols counts args rows kinds lefts rights statements closed busy lent (u.none t).1) n in
          subst Finds (sym (q ∙ ap answer_of (sym e))) (fits f g)

      pub finds : (r : Reply) → r ≡ answer_of (hunt_by (λ n. rows_of (rep_at table) n plan.free (replicate 4 0)) rows plan.variables) → Finds r
      unfolding context_from clause_from
      finds r q =
          let k : Clause = clause_from shapes heads arities subs patterns signs firsts seconds literals in
          let e = hunt-free (rows_from symbols counts args rows) (rep_at table) ps g.placed ps-few plan.levels plan.order plan.ends p.levelled.same p.arranged
          differs (literals_from signs firsts seconds literals) plan.free (free_by k) (λ v h. ap (λ m. eqb m 1) (p.frees.each v h) ∙ mark-read (free_by k v)) few in
          let d = freed-first (rows_from symbols counts args rows) (rep_at table) 65536 differs k classes g.placed
          (rw (ps-length shapes heads arities subs patterns) g.named) u.low in
          subst Finds
          (sym (q ∙ ap answer_of (ap₂ (hunt_by (λ n. rows_of (rep_at table) n plan.free (replicate 4 0))) (sym rows-of) p.counted) ∙ ap answer_of (e ∙ d))) (fits f g)

    pub nexts-none : (after : List ℕ) (r : Reply) → plan.variables ≡ 0 → r ≡ answer_of nothing → Nexts after r
    unfolding context_from clause_from
    nexts-none after r z q =
        let e : later_by (context_from symbols counts args rows kinds lefts rights statements) table (clause_from shapes heads arities subs patterns signs firsts seconds literals) after ≡ nothing =
        next-none differs (rows_from symbols counts args rows) (rep_at table) 65536 (clause_from shapes heads arities subs patterns signs firsts seconds literals) after (sym p.counted ∙ z) in
        subst (Nexts after) (sym (q ∙ ap answer_of (sym e))) (next_fits f g)

    pub nexts : (after from : List ℕ) (r : Reply) → length after ≡ 4 → (plan.variables ≡ 0 → ⊥) → from ≡ next_of plan.variables after
        → r ≡ answer_of (hunt_by (λ n. rows_of (rep_at table) n (replicate 4 0) from) rows plan.variables) → Nexts after r
    unfolding context_from clause_from
    nexts after from r l n w q =
        let some : 0 < variables ps = omega (arith, n, p.counted) in
        let next : from ≡ next_of (variables ps) after = w ∙ ap (λ v. next_of v after) p.counted in
        let e = hunt-next (rows_from symbols counts args rows) (rep_at table) ps g.placed ps-few plan.levels plan.order plan.ends p.levelled.same p.arranged
        differs (literals_from signs firsts seconds literals) from few some after l (ap length next ∙ next-long (variables ps) after ∙ l)
        (ap (take (variables ps)) next ∙ next-bump (variables ps) after l some few) in
        subst (Nexts after)
        (sym (q ∙ ap answer_of (ap₂ (hunt_by (λ m. rows_of (rep_at table) m (replicate 4 0) from)) (sym rows-of) p.counted) ∙ ap answer_of e)) (next_fits f g)

not-true : (b : Bool) → true ≡ not b → b ≡ false
not-true true q = q
not-true false q = refl

module _ (table : List ℕ) (low : (i : ℕ) → Fits w16 (get_or table i 0)) where
  table-low : (i : ℕ) → rep_at table i < 65536
  table-low i = omega (arith, (low i).fits)

  pub futile-not : (never : Bool) (own : ℕ → ℕ) (ds : List (ℕ × ℕ)) → never ≡ false → Futile never (rep_at table) own ds never
  futile-not never own ds h = record { low = table-low; none = λ q. false-true q h }

  pub futile-by : (never : Bool) (own : ℕ → ℕ) (ds : List (ℕ × ℕ)) (c : Option ℕ) (b : Bool) → never ≡ true → clashing c ≡ clash_of own ds → is_some c ≡ not b
      → Futile never (rep_at table) own ds b
  futile-by never own ds (Some n) b t e q = record { low = table-low; none = λ w. false-true w (not-true b q) }
  futile-by never own ds None b t e q = record { low = table-low; none = λ w. (t, sym e) }

-- the closing and the marks that are answered
pub closes-lent : {symbols counts args : List ℕ} {rows : ℕ} {kinds lefts rights : List ℕ} {statements : ℕ} (a : Answer) {table busy : List ℕ}
    → Closes symbols counts args rows kinds lefts rights statements a table → MarksOf symbols counts args rows kinds lefts rights statements table busy
    → Lends symbols counts args rows kinds lefts rights statements table busy
closes-lent Closed w m = record { closes = λ f. w.1; marks = m.fit }
closes-lent Unfit w m = record { closes = λ f. absurd (w.0 f); marks = m.fit }

-- ---- two answers

module _ {symbols counts args : List ℕ} {rows : ℕ} {kinds lefts rights : List ℕ} {statements : ℕ} {table shapes heads arities subs : List ℕ} {patterns : ℕ}
    {signs firsts seconds : List ℕ} {literals : ℕ} (n : FitContext symbols counts args rows kinds lefts rights statements → FitClause shapes heads arities subs patterns signs firsts seconds literals → ⊥)
    (r : Reply) (e : r ≡ unfit_reply) where
  pub finds-unfit : FindsIn symbols counts args rows kinds lefts rights statements table shapes heads arities subs patterns signs firsts seconds literals r
  finds-unfit = subst (FindsIn symbols counts args rows kinds lefts rights statements table shapes heads arities subs patterns signs firsts seconds literals) (sym e) (unfits n)

  pub nexts-unfit : (after : List ℕ) → NextIn symbols counts args rows kinds lefts rights statements table shapes heads arities subs patterns signs firsts seconds literals after r
  nexts-unfit after = subst (NextIn symbols counts args rows kinds lefts rights statements table shapes heads arities subs patterns signs firsts seconds literals after) (sym e) (next-unfits n)

pub finds-one : {symbols counts args : List ℕ} {rows : ℕ} {kinds lefts rights : List ℕ} {statements : ℕ} {table shapes heads arities subs : List ℕ} {patterns : ℕ}
    {signs firsts seconds : List ℕ} {literals : ℕ} {r s : Reply}
    → FindsIn symbols counts args rows kinds lefts rights statements table shapes heads arities subs patterns signs firsts seconds literals r
    → FindsIn symbols counts args rows kinds lefts rights statements table shapes heads arities subs patterns signs firsts seconds literals s → r ≡ s
finds-one (fits f g) (fits p q) = refl
finds-one (fits f g) (unfits n) = absurd (n f g)
finds-one (unfits n) (fits f g) = absurd (n f g)
finds-one (unfits n) (unfits m) = refl

pub nexts-one : {symbols counts args : List ℕ} {rows : ℕ} {kinds lefts rights : List ℕ} {statements : ℕ} {table shapes heads arities subs : List ℕ} {patterns : ℕ}
    {signs firsts seconds : List ℕ} {literals : ℕ} {after : List ℕ} {r s : Reply}
    → NextIn symbols counts args rows kinds lefts rights statements table shapes heads arities subs patterns signs firsts seconds literals after r
    → NextIn symbols counts args rows kinds lefts rights statements table shapes heads arities subs patterns signs firsts seconds literals after s → r ≡ s
nexts-one (next_fits f g) (next_fits p q) = refl
nexts-one (next_fits f g) (next-unfits n) = absurd (n f g)
nexts-one (next-unfits n) (next_fits f g) = absurd (n f g)
nexts-one (next-unfits n) (next-unfits m) = refl

-- what was answered says what was found, and its places are those of the reply
