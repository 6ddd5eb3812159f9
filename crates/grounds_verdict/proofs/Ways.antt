-- The kinds of step by each way out of the code: a stated pair, two steps that meet, arguments one by one, a symbol over them.
--     mine    what the functions of `citing` leave to show, and `paired`
-- Assumes nothing.
use mathlib.Core.Bool.{Bool, true, false, not, ◌&&◌}
use mathlib.Core.List.{List, [], ◌∷◌}
use mathlib.Core.Path.{◌≡◌, refl, ap, sym, ◌∙◌}
use Prim.Native.Nat.{ℕ, zero, suc, ◌+◌, ◌-◌, ◌*◌, ◌≤◌, ◌<◌}
use native.Mathlib.Omega.{arith}
use lib.Dec.{eqb, ltb}
use borrow.Author.Rules.{rules}
use borrow.Author.Tests.{eq-eqb, ne_eqb, lt-ltb, le-ltb, not-true}
use lib.ListN.{length, get_or}
use Rattle.meaning.specs.Grounds.{Step}
use Rattle.meaning.specs.Checking.{counts, paired_by, side_of, cited_by, met_by, each_by, congruent_by}
use Rattle.meaning.specs.GroundColumns.{right_ref, step_from}
use Rattle.runs.specs.Limits.{row_size, arg_places}
use Rattle.runs.specs.Runs.{args_from, row_count, symbol_in, count_in, arg_in, args_in}
use Rattle.runs.proofs.Saying.{arg-at, args-length}
use Rattle.grounds_steps.specs.Steps.{word_in, steps_of}
use Rattle.grounds_steps.proofs.Saying.{step-at}
use Rattle.grounds_numbers.specs.Keys.{Keyed}
use Rattle.grounds_numbers.specs.Pairs.{pair_count, first_in, second_in, pairs_in}
use Rattle.grounds_numbers.proofs.Pairing.{pairs-length, pairs-at}
use Rattle.grounds_verdict.specs.Tests.{instances_in, numbers_at, cited_at, each_at, congruent_at}
use Rattle.grounds_verdict.proofs.Numbers.{counted, cited-none}

pub and-off : (a b : Bool) → b ≡ false → (a && b) ≡ false
and-off true b e = e
and-off false b e = refl

-- ---- a stated pair

module _ (pairs : List ℕ) (x l r : ℕ) where
  module _ (c : ℕ) (ec : c ≡ pair_count pairs) where
    pub paired-none : counts c x ≡ false → false ≡ paired_by (pairs_in pairs) x l r
    unfolding paired_by
    paired-none e = rw (pairs-length pairs, ← ec, e)

    module _ (place : ℕ) (h : (x ≡ place + 1) × (place < c)) (s : ℕ) (es : s ≡ first_in pairs place) where
      before : x - 1 ≡ place
      before = omega arith

      paired-sides : paired_by (pairs_in pairs) x l r ≡ (eqb s l && eqb (second_in pairs place) r)
      unfolding paired_by
      paired-sides =
          rw (
            pairs-length pairs,
            ← ec,
            counted c x place h,
            before,
            ap (λ (d : ℕ × ℕ). d.0) (pairs-at pairs place (omega arith)),
            ap (λ (d : ℕ × ℕ). d.1) (pairs-at pairs place (omega arith)),
            es,
          )

      pub paired-left : (s ≡ l → ⊥) → false ≡ paired_by (pairs_in pairs) x l r
      paired-left f = sym (paired-sides ∙ rw (ne_eqb s l f))

      pub paired-right : (t : ℕ) → s ≡ l → t ≡ second_in pairs place → eqb t r ≡ paired_by (pairs_in pairs) x l r
      paired-right t f g = sym (paired-sides ∙ rw (eq-eqb s l f, ← g))

-- ---- two steps that meet

module _ (ns : List ℕ) (n : ℕ) (few : n ≤ length ns) (steps : List (List ℕ)) (limit o x y l r : ℕ) where
  abbrev m : ℕ
  m = instances_in ns n

  abbrev found : ℕ → ℕ → ℕ → Bool
  found z p q = cited_by ns n m (steps_of steps) limit o z p q

  pub met-none : counts limit x ≡ false → false ≡ met_by ns n (instances_in ns n) (steps_of steps) limit o x y l r
  unfolding met_by
  met-none e = rw (← cited-none ns n m steps limit o x l _ e)

  module _ (place w s : ℕ) (h : (x ≡ place + 1) × (place < limit)) (j : limit ≤ length steps) (ew : w ≡ word_in steps place 0)
      (es : s ≡ side_of ns n (instances_in ns n) (right_ref w)) where
    all : n + m ≡ length ns
    all = omega arith

    step : x - 1 ≡ place
    step = omega arith

    met-middle : met_by ns n m (steps_of steps) limit o x y l r ≡ (found x l s && (ltb s (length ns) && found y s r))
    unfolding met_by step_from
    met-middle = rw (step, step-at steps place (omega arith), es, ew, all)

    pub met-nowhere : length ns ≤ s → false ≡ met_by ns n (instances_in ns n) (steps_of steps) limit o x y l r
    met-nowhere h = sym (met-middle ∙ and-off (found x l s) _ (rw (le-ltb s (length ns) h)))

    module _ (b : Bool) (eb : b ≡ cited_by ns n (instances_in ns n) (steps_of steps) limit o x l s) where
      pub met-first : b ≡ false → false ≡ met_by ns n (instances_in ns n) (steps_of steps) limit o x y l r
      met-first g = sym (met-middle ∙ rw (← eb, g))

      pub met-both : (d : Bool) → s < length ns → b ≡ true → d ≡ cited_by ns n (instances_in ns n) (steps_of steps) limit o y s r
          → d ≡ met_by ns n (instances_in ns n) (steps_of steps) limit o x y l r
      met-both d h g k = sym (met-middle ∙ rw (← eb, g, lt-ltb s (length ns) h, ← k))

-- ---- arguments one by one

module _ (ns : List ℕ) (n m : ℕ) (steps : List Step) (limit o : ℕ) (xs : List ℕ) where
  abbrev at : ℕ → List ℕ → List ℕ → ℕ → Bool
  at i L R j = cited_by ns n m steps limit o (get_or xs (i + j) 0) (get_or L j 0) (get_or R j 0)

  at-shift : (i p q : ℕ) (L R : List ℕ) (j : ℕ) → at (suc i) L R j ≡ at i (p ∷ L) (q ∷ R) (suc j)
  at-shift i p q L R j = let e : suc i + j ≡ i + suc j = omega arith in rw e

  at-start : (i p q : ℕ) (L R : List ℕ) → at i (p ∷ L) (q ∷ R) 0 ≡ cited_by ns n m steps limit o (get_or xs i 0) p q
  at-start i p q L R = let e : i + 0 ≡ i = omega arith in rw e

  each_all : (i : ℕ) (L R : List ℕ) → length L ≡ length R → ((j : ℕ) → j < length L → at i L R j ≡ true) → each_by ns n m steps limit o xs i L R ≡ true
  unfolding each_by
  each_all i [] [] h w = refl
  each_all i [] (q ∷ R) h w = absurd (omega arith)
  each_all i (p ∷ L) [] h w = absurd (omega arith)
  each_all i (p ∷ L) (q ∷ R) h w =
      rw (sym (at-start i p q L R) ∙ w 0 (omega arith))
      (each_all (suc i) L R (omega arith) (λ j l. at-shift i p q L R j ∙ w (suc j) (omega arith)))

  each_none : (i : ℕ) (L R : List ℕ) (j : ℕ) → length L ≡ length R → j < length L → at i L R j ≡ false → each_by ns n m steps limit o xs i L R ≡ false
  unfolding each_by
  each_none i [] R j h l e = absurd (omega arith)
  each_none i (p ∷ L) [] j h l e = absurd (omega arith)
  each_none i (p ∷ L) (q ∷ R) zero h l e = rw (sym (at-start i p q L R) ∙ e)
  each_none i (p ∷ L) (q ∷ R) (suc j) h l e =
      and-off (cited_by ns n m steps limit o (get_or xs i 0) p q) _ (each_none (suc i) L R j (omega arith) (omega arith) (at-shift i p q L R j ∙ e))

  each-lengths : (i : ℕ) (L R : List ℕ) → (length L ≡ length R → ⊥) → each_by ns n m steps limit o xs i L R ≡ false
  unfolding each_by
  each-lengths i [] [] e = absurd (e refl)
  each-lengths i [] (q ∷ R) e = refl
  each-lengths i (p ∷ L) [] e = refl
  each-lengths i (p ∷ L) (q ∷ R) e = and-off (cited_by ns n m steps limit o (get_or xs i 0) p q) _ (each-lengths (suc i) L R (λ z. e (ap suc z)))

-- the first k arguments of entries l and r are cited
pub record Cited (keys ns : List ℕ) (n : ℕ) (steps : List (List ℕ)) (i o l r count k : ℕ) : Type 0 where
  pub most : k ≤ count
  pub so : (j : ℕ) → j < k → cited_at ns n steps i o (get_or (numbers_at steps i) j 0) (arg_in keys l j) (arg_in keys r j) ≡ true

module _ (keys ns : List ℕ) (n : ℕ) (steps : List (List ℕ)) (i o l r count k : ℕ) where
  module _ (hl : l < row_count keys) (hr : r < row_count keys) (few : count ≤ arg_places) where
    abbrev L : List ℕ
    L = args_from keys (l * row_size + 2) count

    abbrev R : List ℕ
    R = args_from keys (r * row_size + 2) count

    left-long : length L ≡ count
    left-long = args-length keys (l * row_size + 2) count (omega arith) few

    right-long : length R ≡ count
    right-long = args-length keys (r * row_size + 2) count (omega arith) few

    arguments-at : (j : ℕ) → j < count
        → at ns n (instances_in ns n) (steps_of steps) i o (numbers_at steps i) 0 L R j ≡ cited_at ns n steps i o (get_or (numbers_at steps i) j 0) (arg_in keys l j) (arg_in keys r j)
    arguments-at j h =
        let z : 0 + j ≡ j = omega arith in
        rw (z, arg-at keys (l * row_size + 2) count j h few, arg-at keys (r * row_size + 2) count j h few)

    module _ (b : Bool) (w : Cited keys ns n steps i o l r count k) (inside : k < count)
        (eb : b ≡ cited_at ns n steps i o (get_or (numbers_at steps i) k 0) (arg_in keys l k) (arg_in keys r k)) where
      pub cited-stop : not b ≡ true → false ≡ each_at keys ns n steps i o l r count
      cited-stop e =
          sym (each_none ns n (instances_in ns n) (steps_of steps) i o (numbers_at steps i) 0 L R k (left-long ∙ sym right-long) (omega (arith, left-long))
          (arguments-at k inside ∙ sym eb ∙ not-true b e))

    pub cited-done : Cited keys ns n steps i o l r count k → count ≤ k → true ≡ each_at keys ns n steps i o l r count
    cited-done w h =
        sym (each_all ns n (instances_in ns n) (steps_of steps) i o (numbers_at steps i) 0 L R (left-long ∙ sym right-long) (λ j b.
        let c : j < count = omega (arith, left-long) in
        arguments-at j c ∙ w.so j (omega arith)))

-- ---- a symbol over arguments

module _ (keys ns : List ℕ) (n : ℕ) (steps : List (List ℕ)) (i o l r : ℕ) (keyed : Keyed keys (length ns)) (hl : l < length ns) (hr : r < length ns) where
  module _ (p q : ℕ) (ep : p ≡ symbol_in keys l) (eq : q ≡ symbol_in keys r) where
    pub congruent-symbols : (p ≡ q → ⊥) → false ≡ congruent_at keys ns n steps i o l r
    unfolding congruent_by
    congruent-symbols d = rw (ne_eqb (symbol_in keys l) (symbol_in keys r) (λ z. d (ep ∙ z ∙ sym eq)))

    module _ (c d : ℕ) (ec : c ≡ count_in keys l) (ed : d ≡ count_in keys r) where
      args-long : (x : ℕ) → x < length ns → length (args_in keys x) ≡ count_in keys x
      args-long x h = args-length keys (x * row_size + 2) (count_in keys x) (omega (arith, keyed.room)) (keyed.few x h)

      pub congruent-counts : (c ≡ d → ⊥) → false ≡ congruent_at keys ns n steps i o l r
      unfolding congruent_by
      congruent-counts e =
          sym (and-off (eqb (symbol_in keys l) (symbol_in keys r)) _
          (each-lengths ns n (instances_in ns n) (steps_of steps) i o (numbers_at steps i) 0 (args_in keys l) (args_in keys r) (λ z.
          e (ec ∙ sym (args-long l hl) ∙ z ∙ args-long r hr ∙ sym ed))))

      pub congruent-args : (b : Bool) → p ≡ q → c ≡ d → b ≡ each_at keys ns n steps i o l r c → b ≡ congruent_at keys ns n steps i o l r
      unfolding congruent_by
      congruent-args b e f h =
          let x : count_in keys l ≡ c = sym ec in
          let y : count_in keys r ≡ c = sym (f ∙ ed) in
          rw (eq-eqb (symbol_in keys l) (symbol_in keys r) (sym ep ∙ e ∙ eq), x, y) h

pub ruleset mine = (
  rules,
  paired-none,
  paired-left,
  paired-right,
  met-none,
  cited-stop,
  cited-done,
)
