-- Conclusions judged by numbers, and the computed verdict, which is the verdict.
--     true-concludes, concludes-true  a conclusion shows a literal by numbers, and as meant
--     verdict-unassigned .. verdict-accepted   the three places where the tests end, and the verdict that they give
--     verdict_by-verified              the computed verdict
-- Assumes nothing.
use mathlib.Core.Bool.{Bool, true, false}
use mathlib.Core.List.{List}
use mathlib.Core.Path.{◌≡◌, refl, sym, subst}
use Prim.Native.Nat.{ℕ, zero, suc, ◌+◌, ◌-◌, ◌≤◌, ◌<◌}
use native.Mathlib.Omega.{arith}
use lib.Dec.{ltb}
use borrow.Author.Tests.{ltb-true, ltb-false, lt-ltb}
use lib.ListN.{length, get_or}
use lib.Seq.{take-length}
use Rattle.meaning.specs.Context.{Term, Row, term_at, Context, equations, differences, left_at, right_at}
use Rattle.meaning.specs.Rules.{variables, Literal, equal, unequal, Clause}
use Rattle.meaning.specs.Formed.{Formed, Names}
use Rattle.meaning.specs.Values.{number_at}
use Rattle.meaning.specs.Grounds.{Step, Conclusion, PairAt, Cites, ShowsDiffer, Concludes, Each, FirstNot, conclusion_for, literal_at, Assigned, FollowsAt, ConcludedAt, Verdict, accepted, unassigned, bad, unconcluded, Verified, accepts, unassigns, refuses, leaves-open}
use Rattle.meaning.specs.Checking.{entries, keys_of, numbered, numbers_of, Faithful, counts, cited_by, follows_by, differs_by_steps, concludes_by, concluded_by, first_false, Ends, assigned_by, choose, verdict_by}
use Rattle.meaning.proofs.Logic.{and-true-left, and-true-right, and_both, false-true}
use Rattle.meaning.proofs.Entries.{length-entries, entries-ordered}
use Rattle.meaning.proofs.Faithful.{numbers_of-faithful}
use Rattle.meaning.proofs.Cited.{counts-true, length-numbered, named-at, Ready, n, m, es, Is, instance-is, cited-cites, cites-cited, pair_left, pair-right, pair-counted}
use Rattle.meaning.proofs.Checks.{true-follows, follows-true}

module _ (c : Context) (k : Clause) (a : List ℕ) (ns : List ℕ) (ready : Ready c k a ns) (steps : List Step) where
  abbrev rows : ℕ
  rows = n c k a ns ready

  abbrev patterns : ℕ
  patterns = m c k a ns ready

  abbrev diffs : List (ℕ × ℕ)
  diffs = numbered ns (differences c)

  abbrev Number : ℕ → Term → Type 0
  Number x t = Is c k a ns ready x t

  abbrev cited : ℕ → ℕ → ℕ → ℕ → Bool
  cited o x l r = cited_by ns rows patterns steps (length steps) o x l r

  true-cites : (o x l r : ℕ) (t u : Term) → Number l t → Number r u → cited o x l r ≡ true → Cites c k a steps o x t u
  true-cites o x l r t u p q e =
      subst (λ (z : List Step). Cites c k a z o x t u) (take-length steps) (cited-cites c k a ns ready steps (length steps) o x l r t u (omega arith) p q e)

  cites-true : (o x l r : ℕ) (t u : Term) → Number l t → Number r u → Cites c k a steps o x t u → cited o x l r ≡ true
  cites-true o x l r t u p q w =
      cites-cited c k a ns ready steps (length steps) o x l r t u p q (subst (λ (z : List Step). Cites c k a z o x t u) (sym (take-length steps)) w)

  module _ (o : ℕ) (d : Conclusion) where
    abbrev p : ℕ
    p = left_at diffs (d.difference - 1)

    abbrev q : ℕ
    q = right_at diffs (d.difference - 1)

    true-differs : differs_by_steps ns rows patterns diffs steps o d ≡ true → ShowsDiffer c k a steps o d
    unfolding differs_by_steps
    true-differs e = record { left = x; right = y; pair = pair; cites = true-cites o d.first p q x y pn qn (and-true-right there (cited o d.first p q) e) }
      where
        there : Bool
        there = counts (length diffs) d.difference

        b : (0 < d.difference) × (d.difference ≤ length diffs)
        b = counts-true (length diffs) d.difference (and-true-left there (cited o d.first p q) e)

        x : Term
        x = term_at c.rows (left_at (differences c) (d.difference - 1))

        y : Term
        y = term_at c.rows (right_at (differences c) (d.difference - 1))

        pair : PairAt c.rows (differences c) d.difference x y
        pair =
            record {
              place = d.difference - 1;
              counted = omega (arith, b.0);
              inside = omega (arith, b.0, b.1, length-numbered ns (differences c));
              left = refl;
              right = refl;
            }

        pn : Number p x
        pn = pair_left c k a ns ready (differences c) ready.formed.fit.apart d.difference x y pair

        qn : Number q y
        qn = pair-right c k a ns ready (differences c) ready.formed.fit.apart d.difference x y pair

    differs_true : ShowsDiffer c k a steps o d → differs_by_steps ns rows patterns diffs steps o d ≡ true
    unfolding differs_by_steps
    differs_true w =
        let pn : Number p w.left = pair_left c k a ns ready (differences c) ready.formed.fit.apart d.difference w.left w.right w.pair in
        let qn : Number q w.right = pair-right c k a ns ready (differences c) ready.formed.fit.apart d.difference w.left w.right w.pair in
        and_both (counts (length diffs) d.difference) (cited o d.first p q)
        (pair-counted c k a ns ready (differences c) d.difference w.left w.right w.pair)
        (cites-true o d.first p q w.left w.right pn qn w.cites)

  pub true-concludes : (o : ℕ) (d : Conclusion) (x : Literal) → Names patterns x → concludes_by ns rows patterns diffs steps o d x ≡ true
      → Concludes c k a steps o d x
  unfolding concludes_by
  true-concludes o d (equal p q) w e =
      true-cites 0 d.first (number_at ns (rows + p)) (number_at ns (rows + q)) _ _ (instance-is c k a ns ready p w.0) (instance-is c k a ns ready q w.1) e
  true-concludes o d (unequal p q) w e = true-differs o d e

  pub concludes-true : (o : ℕ) (d : Conclusion) (x : Literal) → Names patterns x → Concludes c k a steps o d x
      → concludes_by ns rows patterns diffs steps o d x ≡ true
  unfolding concludes_by
  concludes-true o d (equal p q) w e =
      cites-true 0 d.first (number_at ns (rows + p)) (number_at ns (rows + q)) _ _ (instance-is c k a ns ready p w.0) (instance-is c k a ns ready q w.1) e
  concludes-true o d (unequal p q) w e = differs_true o d e

-- ---- the first that is not so

module _ (test : ℕ → Bool) (So : ℕ → Type 0) (total : ℕ) (there : (x : ℕ) → x < total → test x ≡ true → So x)
    (back : (x : ℕ) → x < total → So x → test x ≡ true) where
  ends-first : (i : ℕ) → Ends test total i → i < total → FirstNot total So i
  ends-first i w h =
      record { inside = h; fails = λ z. false-true (back i h z) (w.fails h); before = λ x l. there x (omega arith) (w.before x l) }

  ends-each : (i : ℕ) → Ends test total i → total ≤ i → Each total So
  ends-each i w h x l = there x l (w.before x (omega arith))

first-false : (test : ℕ → Bool) (i d : ℕ) → ((j : ℕ) → j < i → test j ≡ true) → Ends test (i + d) (first_false test i d)
unfolding first_false
first-false test i zero w = record { most = omega arith; before = w; fails = λ h. absurd (omega arith) }
first-false test i (suc d) w = go (test i) refl (λ v. first-false test (suc i) d v)
  where
    go : (b : Bool) → test i ≡ b → (((j : ℕ) → j < suc i → test j ≡ true) → Ends test (suc i + d) (first_false test (suc i) d)) → Ends test (i + suc d) (first_false test i (suc d))
    go true e ih =
        let z : suc i + d ≡ i + suc d = omega arith in
        rw (e, first_false) (subst (λ (x : ℕ). Ends test x (first_false test (suc i) d)) z (ih (λ j h. up j h (ltb j i) refl)))
      where
        up : (j : ℕ) → j < suc i → (b : Bool) → ltb j i ≡ b → test j ≡ true
        up j h true x = w j (ltb-true j i x)
        up j h false x = let q : j ≡ i = omega (arith, ltb-false j i x) in rw q e
    go false e ih = rw (e, first_false) (record { most = omega arith; before = w; fails = λ h. e })

pub false-ends : (test : ℕ → Bool) (d : ℕ) → Ends test d (first_false test 0 d)
false-ends test d = subst (λ (x : ℕ). Ends test x (first_false test 0 d)) (omega arith) (first-false test 0 d (λ j h. absurd (omega arith)))

-- ---- verdicts

assigned-true : (rows : List Row) (a : List ℕ) (v : ℕ) → assigned_by (length rows) a v ≡ true → (v < length a) × (get_or a v 0 < length rows)
unfolding assigned_by
assigned-true rows a v e =
    let x : Bool = ltb v (length a) in
    let y : Bool = ltb (get_or a v 0) (length rows) in
    (ltb-true v (length a) (and-true-left x y e), ltb-true (get_or a v 0) (length rows) (and-true-right x y e))

true-assigned : (rows : List Row) (a : List ℕ) (v : ℕ) → (v < length a) × (get_or a v 0 < length rows) → assigned_by (length rows) a v ≡ true
unfolding assigned_by
true-assigned rows a v w = and_both (ltb v (length a)) _ (lt-ltb v (length a) w.0) (lt-ltb (get_or a v 0) (length rows) w.1)

module _ (c : Context) (k : Clause) (a : List ℕ) (steps : List Step) (ds : List Conclusion) where
  abbrev vs : ℕ
  vs = variables k.patterns

  pub verdict-unassigned : (v : ℕ) → Ends (assigned_by (length c.rows) a) vs v → v < vs → Verified c k a steps ds (unassigned v)
  verdict-unassigned v w h =
      unassigns v
      (ends-first (assigned_by (length c.rows) a) (Assigned c k a steps ds) vs (λ x l e. assigned-true c.rows a x e) (λ x l e. true-assigned c.rows a x e) v w h)

  pub all-assigned : (v : ℕ) → Ends (assigned_by (length c.rows) a) vs v → vs ≤ v → Each vs (λ x. (x < length a) × (get_or a x 0 < length c.rows))
  all-assigned v w h =
      ends-each (assigned_by (length c.rows) a) (Assigned c k a steps ds) vs (λ x l e. assigned-true c.rows a x e) (λ x l e. true-assigned c.rows a x e) v w h

  module _ (ns : List ℕ) (ready : Ready c k a ns) where
    abbrev step_test : ℕ → Bool
    step_test i = follows_by ns (n c k a ns ready) (m c k a ns ready) (keys_of ns (es c k a ns ready)) (numbered ns (equations c)) k.literals steps i

    abbrev literal_test : ℕ → Bool
    literal_test j = concluded_by ns (n c k a ns ready) (m c k a ns ready) (numbered ns (differences c)) k.literals steps ds j

    pub verdict-bad : (i : ℕ) → Ends step_test (length steps) i → i < length steps → Verified c k a steps ds (bad (suc i))
    verdict-bad i w h =
        refuses ready.chosen i
        (ends-first step_test (FollowsAt c k a steps ds) (length steps) (λ x l e. true-follows c k a ns ready steps x l e) (λ x l e. follows-true c k a ns ready steps x l e) i w h)

    all-follow : (i : ℕ) → Ends step_test (length steps) i → length steps ≤ i → Each (length steps) (FollowsAt c k a steps ds)
    all-follow i w h =
        ends-each step_test (FollowsAt c k a steps ds) (length steps) (λ x l e. true-follows c k a ns ready steps x l e) (λ x l e. follows-true c k a ns ready steps x l e) i w h

    literal-there : (x : ℕ) → x < length k.literals → literal_test x ≡ true → ConcludedAt c k a steps ds x
    unfolding concluded_by
    literal-there x l e =
        true-concludes c k a ns ready steps (suc x) (conclusion_for (suc x) ds) (literal_at k.literals x) (named-at (length k.patterns) k.literals ready.formed.named x l) e

    literal-back : (x : ℕ) → x < length k.literals → ConcludedAt c k a steps ds x → literal_test x ≡ true
    unfolding concluded_by
    literal-back x l e =
        concludes-true c k a ns ready steps (suc x) (conclusion_for (suc x) ds) (literal_at k.literals x) (named-at (length k.patterns) k.literals ready.formed.named x l) e

    pub verdict-unconcluded : (i j : ℕ) → Ends step_test (length steps) i → length steps ≤ i → Ends literal_test (length k.literals) j → j < length k.literals
        → Verified c k a steps ds (unconcluded (suc j))
    verdict-unconcluded i j w h v l =
        leaves-open ready.chosen (all-follow i w h) j (ends-first literal_test (ConcludedAt c k a steps ds) (length k.literals) literal-there literal-back j v l)

    pub verdict-accepted : (i j : ℕ) → Ends step_test (length steps) i → length steps ≤ i → Ends literal_test (length k.literals) j → length k.literals ≤ j
        → Verified c k a steps ds accepted
    verdict-accepted i j w h v l =
        accepts ready.chosen (all-follow i w h) (ends-each literal_test (ConcludedAt c k a steps ds) (length k.literals) literal-there literal-back j v l)

  abbrev computed : List ℕ
  computed = numbers_of (entries c.rows a k.patterns)

  computed-ready : Formed c k → Each vs (λ x. (x < length a) × (get_or a x 0 < length c.rows)) → Ready c k a computed
  computed-ready formed w =
      record {
        formed = formed;
        chosen = w;
        faithful = subst (Faithful (entries c.rows a k.patterns) computed) (length-entries c.rows a k.patterns)
            (numbers_of-faithful (entries c.rows a k.patterns) (entries-ordered c.rows a k.patterns formed.fit.ordered formed.placed w));
      }

  choose-cases : (P : Verdict → Type 0) (i total : ℕ) (v w : Verdict) → (i < total → P v) → (total ≤ i → P w) → P (choose i total v w)
  unfolding choose
  choose-cases P i total v w f g = go (ltb i total) refl
    where
      go : (b : Bool) → ltb i total ≡ b → P (choose i total v w)
      go true e = rw (e, choose) (f (ltb-true i total e))
      go false e = rw (e, choose) (g (ltb-false i total e))

  pub verdict_by-verified : Formed c k → Verified c k a steps ds (verdict_by c k a steps ds)
  unfolding verdict_by
  verdict_by-verified formed =
      choose-cases (Verified c k a steps ds) _ _ _ _ (verdict-unassigned _ first) (λ h. assigned (computed-ready formed (all-assigned _ first h)))
    where
      first : Ends (assigned_by (length c.rows) a) vs (first_false (assigned_by (length c.rows) a) 0 vs)
      first = false-ends (assigned_by (length c.rows) a) vs

      steps-at : ℕ
      steps-at =
          first_false
          (follows_by computed (length c.rows) (length k.patterns) (keys_of computed (entries c.rows a k.patterns)) (numbered computed (equations c)) k.literals steps)
          0
          (length steps)

      literals-at : ℕ
      literals-at =
          first_false (concluded_by computed (length c.rows) (length k.patterns) (numbered computed (differences c)) k.literals steps ds) 0
          (length k.literals)

      assigned : Ready c k a computed
          → Verified c k a steps ds (choose steps-at (length steps) (bad (suc steps-at)) (choose literals-at (length k.literals) (unconcluded (suc literals-at)) accepted))
      assigned ready =
          choose-cases (Verified c k a steps ds) _ _ _ _ (verdict-bad computed ready _ (false-ends _ _))
          (λ h. choose-cases (Verified c k a steps ds) _ _ _ _ (verdict-unconcluded computed ready _ _ (false-ends _ _) h (false-ends _ _))
          (verdict-accepted computed ready _ _ (false-ends _ _) h (false-ends _ _)))
