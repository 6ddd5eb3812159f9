-- The stated differences one by one, under a table: the first clash, and whether two classes are kept apart.
--     Clearing, Parting    the loops: no clash so far; not kept apart so far
--     mine                 what `clash`, `apart` and the functions below them leave to show
-- Assumes nothing.
use mathlib.Core.Bool.{Bool, true, false, not, ◌&&◌, ◌||◌}
use mathlib.Core.Logic.{◌⊎◌, inl, inr}
use mathlib.Core.List.{List, [], ◌∷◌, ◌++◌}
use mathlib.Core.Path.{◌≡◌, refl, ap, ap₂, sym, ◌∙◌, subst}
use Prim.Native.Nat.{ℕ, zero, suc, ◌+◌, ◌≤◌, ◌<◌}
use native.Mathlib.Numerals.{add-one}
use native.Mathlib.Omega.{arith}
use lib.Dec.{eqb}
use lib.ListN.{length, length-append}
use borrow.Author.Rules.{rules}
use borrow.Author.Tests.{eqb-true, eqb-false, eq-eqb, ne_eqb}
use Rattle.meaning.specs.Context.{differences_of}
use Rattle.meaning.specs.Equality.{rep_at}
use Rattle.meaning.specs.ByTable.{first, clear, clash_from, clash_of, apart_by}
use Rattle.meaning.proofs.Logic.{or_left, or-none}
use Rattle.runs.specs.Runs.{said_count, kind_in, left_in, right_in, statements_of}
use Rattle.classes.specs.Steps.{difference_at, clash_at, both_same, either_same, apart_at}
use Rattle.classes.proofs.Pairs.{pair_at, kept, pairs_from, is_difference, differences-are}

-- ---- one statement
module _ (said t : List ℕ) (k c : ℕ) (ec : c ≡ kind_in said k) where
  pub difference-none : c ≡ 2 → 0 ≡ difference_at said k
  unfolding difference_at
  difference-none e = rw (eq-eqb (kind_in said k) 2 (sym ec ∙ e), difference_at)

  pub difference-one : (c ≡ 2 → ⊥) → 1 ≡ difference_at said k
  unfolding difference_at
  difference-one n = rw (ne_eqb (kind_in said k) 2 (λ z. n (ec ∙ z)), difference_at)

  pub clash-equation : c ≡ 2 → not (eqb c 2) ≡ clash_at said t k
  unfolding clash_at
  clash-equation e = rw (eq-eqb c 2 e, eq-eqb (kind_in said k) 2 (sym ec ∙ e))

  pub apart-equation : (a b : ℕ) → c ≡ 2 → not (eqb c 2) ≡ apart_at said t k a b
  unfolding apart_at
  apart-equation a b e = rw (eq-eqb c 2 e, eq-eqb (kind_in said k) 2 (sym ec ∙ e))

  module _ (n : c ≡ 2 → ⊥) (x y p q : ℕ) (ex : x ≡ left_in said k) (ey : y ≡ right_in said k) (ep : p ≡ rep_at t x) (eq : q ≡ rep_at t y) where
    pub clash-sides : eqb p q ≡ clash_at said t k
    unfolding clash_at
    clash-sides = rw (ne_eqb (kind_in said k) 2 (λ z. n (ec ∙ z)), ep, eq, ex, ey)

    pub apart-sides : (a b : ℕ) (r : Bool) → r ≡ either_same a b p q → r ≡ apart_at said t k a b
    unfolding apart_at
    apart-sides a b r e =
        rw (ne_eqb (kind_in said k) 2 (λ z. n (ec ∙ z)))
        (e ∙ ap₂ (λ (u v : ℕ). either_same a b u v) (ep ∙ ap (rep_at t) ex) (eq ∙ ap (rep_at t) ey))

-- ---- two classes, in either order

both-none : (a b p q : ℕ) → (a ≡ p → ⊥) → false ≡ both_same a b p q
unfolding both_same
both-none a b p q n = rw (ne_eqb a p n)

both-last : (a b p q : ℕ) → a ≡ p → eqb b q ≡ both_same a b p q
unfolding both_same
both-last a b p q e = rw (eq-eqb a p e)

module _ (a b p q : ℕ) where
  pub either-first : (r : Bool) → r ≡ eqb b q → a ≡ p → b ≡ q → r ≡ either_same a b p q
  unfolding either_same
  either-first r er e f = er ∙ eq-eqb b q f ∙ sym (or_left (both_same a b p q) (both_same b a p q) (sym (both-last a b p q e) ∙ eq-eqb b q f))

  module _ (n : ((a ≡ p) × (b ≡ q → ⊥)) ⊎ (a ≡ p → ⊥)) where
    not-first : both_same a b p q ≡ false
    not-first = go n
      where
        go : ((a ≡ p) × (b ≡ q → ⊥)) ⊎ (a ≡ p → ⊥) → both_same a b p q ≡ false
        go (inl w) = sym (both-last a b p q w.0) ∙ ne_eqb b q w.1
        go (inr w) = sym (both-none a b p q w)

    pub either-second : b ≡ p → eqb a q ≡ either_same a b p q
    unfolding either_same
    either-second e = rw not-first (both-last b a p q e)

    pub either-neither : (b ≡ p → ⊥) → eqb b p ≡ either_same a b p q
    unfolding either_same
    either-neither m = rw (not-first, ne_eqb b p m) (both-none b a p q m)

-- ---- lists of differences

clash-append : (rep : ℕ → ℕ) (i : ℕ) (xs ys : List (ℕ × ℕ)) → clash_from rep i xs ≡ clear → clash_from rep i (xs ++ ys) ≡ clash_from rep (i + length xs) ys
unfolding clash_from
clash-append rep i [] ys e = let z : i ≡ i + 0 = omega arith in ap (λ (x : ℕ). clash_from rep x ys) z
clash-append rep i (x ∷ xs) ys e = go (eqb (rep x.0) (rep x.1)) refl (clash-append rep (suc i) xs ys)
  where
    go : (b : Bool) → eqb (rep x.0) (rep x.1) ≡ b
        → (clash_from rep (suc i) xs ≡ clear → clash_from rep (suc i) (xs ++ ys) ≡ clash_from rep (suc i + length xs) ys)
        → clash_from rep i (x ∷ (xs ++ ys)) ≡ clash_from rep (i + suc (length xs)) ys
    go true q ih = absurd (let y : first i ≡ clear = sym (rw (q, clash_from)) ∙ e in let z : ◌≡◌ {A = ℕ} 0 1 = cc in omega arith)
    go false q ih =
        let z : suc i + length xs ≡ i + suc (length xs) = omega arith in
        rw (q, clash_from) (ih (sym (rw (q, clash_from)) ∙ e) ∙ ap (λ (k : ℕ). clash_from rep k ys) z)

clash-keeps : (rep : ℕ → ℕ) (i n : ℕ) (xs ys : List (ℕ × ℕ)) → clash_from rep i xs ≡ first n → clash_from rep i (xs ++ ys) ≡ first n
unfolding clash_from
clash-keeps rep i n [] ys e = absurd (let z : ◌≡◌ {A = ℕ} 0 1 = cc in omega arith)
clash-keeps rep i n (x ∷ xs) ys e = go (eqb (rep x.0) (rep x.1)) refl (clash-keeps rep (suc i) n xs ys)
  where
    go : (b : Bool) → eqb (rep x.0) (rep x.1) ≡ b → (clash_from rep (suc i) xs ≡ first n → clash_from rep (suc i) (xs ++ ys) ≡ first n)
        → clash_from rep i (x ∷ (xs ++ ys)) ≡ first n
    go true q ih = rw (q, clash_from) (sym (rw (q, clash_from)) ∙ e)
    go false q ih = rw (q, clash_from) (ih (sym (rw (q, clash_from)) ∙ e))

apart-append : (rep : ℕ → ℕ) (xs ys : List (ℕ × ℕ)) (a b : ℕ) → apart_by rep xs a b ≡ false → apart_by rep (xs ++ ys) a b ≡ apart_by rep ys a b
unfolding apart_by
apart-append rep [] ys a b e = refl
apart-append rep (x ∷ xs) ys a b e =
    let here : Bool = (eqb a (rep x.0) && eqb b (rep x.1)) || (eqb b (rep x.0) && eqb a (rep x.1)) in
    let n : (here ≡ false) × (apart_by rep xs a b ≡ false) = or-none here (apart_by rep xs a b) e in
    rw n.0 (apart-append rep xs ys a b n.1)

apart-keeps : (rep : ℕ → ℕ) (xs ys : List (ℕ × ℕ)) (a b : ℕ) → apart_by rep xs a b ≡ true → apart_by rep (xs ++ ys) a b ≡ true
unfolding apart_by
apart-keeps rep [] ys a b e = cc
apart-keeps rep (x ∷ xs) ys a b e =
    let here : Bool = (eqb a (rep x.0) && eqb b (rep x.1)) || (eqb b (rep x.0) && eqb a (rep x.1)) in
    go here refl (apart-keeps rep xs ys a b)
  where
    go : (h : Bool) → ((eqb a (rep x.0) && eqb b (rep x.1)) || (eqb b (rep x.0) && eqb a (rep x.1))) ≡ h
        → (apart_by rep xs a b ≡ true → apart_by rep (xs ++ ys) a b ≡ true)
        → (((eqb a (rep x.0) && eqb b (rep x.1)) || (eqb b (rep x.0) && eqb a (rep x.1))) || apart_by rep (xs ++ ys) a b) ≡ true
    go true q ih = rw q
    go false q ih = rw q (ih (rw q at e))

-- ---- the loops: the first k statements are passed

abbrev diffs : List ℕ → ℕ → List (ℕ × ℕ)
diffs said k = pairs_from (is_difference said) said k

-- what holds of the differences of the first k statements, and goes on holding, holds of all
grows : (P : List (ℕ × ℕ) → Type 0) → ((xs ys : List (ℕ × ℕ)) → P xs → P (xs ++ ys)) → (keep : ℕ → Bool) (said : List ℕ) (k m : ℕ) → k ≤ m
    → P (pairs_from keep said k) → P (pairs_from keep said m)
unfolding pairs_from
grows P f keep said k zero h p = let e : k ≡ 0 = omega arith in subst (λ (x : ℕ). P (pairs_from keep said x)) e p
grows P f keep said k (suc m) h p = go (eqb k (suc m)) refl (grows P f keep said k m)
  where
    go : (b : Bool) → eqb k (suc m) ≡ b → (k ≤ m → P (pairs_from keep said k) → P (pairs_from keep said m)) → P (pairs_from keep said (suc m))
    go true e ih = subst (λ (x : ℕ). P (pairs_from keep said x)) (eqb-true k (suc m) e) p
    go false e ih = f (pairs_from keep said m) (kept (keep m) (pair_at said m)) (ih (omega (arith, eqb-false k (suc m) e)) p)

-- ---- the pair of one statement, where it is a difference

abbrev one : List ℕ → ℕ → List (ℕ × ℕ)
one said k = kept (is_difference said k) (pair_at said k)

module _ (said t : List ℕ) (k : ℕ) where
  one-length : difference_at said k ≡ length (one said k)
  unfolding difference_at
  one-length = go (eqb (kind_in said k) 2) refl
    where
      go : (b : Bool) → eqb (kind_in said k) 2 ≡ b → difference_at said k ≡ length (one said k)
      go true e = rw (e, difference_at)
      go false e = rw (e, difference_at)

  one-clear : (n : ℕ) → clash_at said t k ≡ false → clash_from (rep_at t) n (one said k) ≡ clear
  unfolding clash_at clash_from
  one-clear n f = go (eqb (kind_in said k) 2) refl
    where
      go : (b : Bool) → eqb (kind_in said k) 2 ≡ b → clash_from (rep_at t) n (one said k) ≡ clear
      go true e = rw e
      go false e = let q : eqb (rep_at t (left_in said k)) (rep_at t (right_in said k)) ≡ false = rw e at f in rw (e, q, clash_from)

  one-first : (n : ℕ) → clash_at said t k ≡ true → clash_from (rep_at t) n (one said k) ≡ first n
  unfolding clash_at clash_from
  one-first n f = go (eqb (kind_in said k) 2) refl
    where
      go : (b : Bool) → eqb (kind_in said k) 2 ≡ b → clash_from (rep_at t) n (one said k) ≡ first n
      go true e = let q : false ≡ true = rw e at f in absurd (let z : ◌≡◌ {A = ℕ} 0 1 = cc in omega arith)
      go false e = let q : eqb (rep_at t (left_in said k)) (rep_at t (right_in said k)) ≡ true = rw e at f in rw (e, q, clash_from)

  one_apart : (a b : ℕ) → apart_by (rep_at t) (one said k) a b ≡ apart_at said t k a b
  unfolding apart_at apart_by either_same both_same
  one_apart a b = go (eqb (kind_in said k) 2) refl
    where
      or-false : (x : Bool) → (x || false) ≡ x
      or-false true = refl
      or-false false = refl

      go : (c : Bool) → eqb (kind_in said k) 2 ≡ c → apart_by (rep_at t) (one said k) a b ≡ apart_at said t k a b
      go true e = rw e
      go false e = rw e (or-false _)

-- ---- the first clash; m is the number of statements that the run says
pub record Clearing (said : List ℕ) (m : ℕ) (t : List ℕ) (n k : ℕ) : Type 0 where
  pub so : clash_of (rep_at t) (pairs_from (is_difference said) said k) ≡ clear
  pub number : n ≡ length (pairs_from (is_difference said) said k)
  pub few : n ≤ k
  pub count : m ≡ said_count said
  pub reach : k ≤ m

pub clearing-start : (said : List ℕ) (m : ℕ) (t : List ℕ) → m ≡ said_count said → Clearing said m t 0 0
unfolding pairs_from clash_of clash_from
clearing-start said m t e = record { so = refl; number = refl; few = omega arith; count = e; reach = omega arith }

module _ {said : List ℕ} {m : ℕ} {t : List ℕ} {n k : ℕ} (g : Clearing said m t n k) where
  -- one statement more
  clash-more : clash_of (rep_at t) (diffs said (suc k)) ≡ clash_from (rep_at t) n (one said k)
  unfolding pairs_from clash_of
  clash-more =
      let z : 0 + length (diffs said k) ≡ n = omega (arith, g.number) in
      clash-append (rep_at t) 0 (diffs said k) (one said k) g.so ∙ ap (λ (x : ℕ). clash_from (rep_at t) x (one said k)) z

  length_more : length (diffs said (suc k)) ≡ n + difference_at said k
  unfolding pairs_from
  length_more = omega (arith, length-append (diffs said k) (one said k), g.number, one-length said t k)

  module _ (r : Bool) (h : k < m) (at : r ≡ clash_at said t k) where
    pub clearing-next : (d : ℕ) → r ≡ false → d ≡ difference_at said k → d ≤ 1 → Clearing said m t (n + d) (k + 1)
    clearing-next d e ed low =
        record {
          so = rw add-one (clash-more ∙ one-clear said t k n (sym at ∙ e));
          number = rw add-one (omega (arith, length_more));
          few = omega (arith, g.few);
          count = g.count;
          reach = omega arith;
        }

    pub clearing-found : r ≡ true → first n ≡ clash_of (rep_at t) (differences_of (statements_of said))
    unfolding clash_of
    clearing-found e =
        sym
        (ap (clash_of (rep_at t)) (differences-are said)
        ∙ grows (λ xs. clash_of (rep_at t) xs ≡ first n) (λ xs ys. clash-keeps (rep_at t) 0 n xs ys) (is_difference said) said (suc k) (said_count said)
        (omega (arith, g.count)) (clash-more ∙ one-first said t k n (sym at ∙ e)))

  pub clearing-done : m ≤ k → clear ≡ clash_of (rep_at t) (differences_of (statements_of said))
  clearing-done h =
      let e : k ≡ said_count said = omega (arith, g.reach, g.count) in
      sym
      (ap (clash_of (rep_at t)) (differences-are said) ∙ subst (λ (x : ℕ). clash_of (rep_at t) (diffs said x) ≡ clear) e g.so)

-- ---- whether two classes are kept apart
pub record Parting (said : List ℕ) (m : ℕ) (t : List ℕ) (a b k : ℕ) : Type 0 where
  pub so : apart_by (rep_at t) (pairs_from (is_difference said) said k) a b ≡ false
  pub count : m ≡ said_count said
  pub reach : k ≤ m

pub parting-start : (said : List ℕ) (m : ℕ) (t : List ℕ) (a b : ℕ) → m ≡ said_count said → Parting said m t a b 0
unfolding pairs_from apart_by
parting-start said m t a b e = record { so = refl; count = e; reach = omega arith }

module _ {said : List ℕ} {m : ℕ} {t : List ℕ} {a b k : ℕ} (g : Parting said m t a b k) where
  apart_more : apart_by (rep_at t) (diffs said (suc k)) a b ≡ apart_at said t k a b
  unfolding pairs_from
  apart_more = apart-append (rep_at t) (diffs said k) (one said k) a b g.so ∙ one_apart said t k a b

  module _ (r : Bool) (h : k < m) (at : r ≡ apart_at said t k a b) where
    pub parting-next : r ≡ false → Parting said m t a b (k + 1)
    parting-next f = record { so = rw add-one (apart_more ∙ sym at ∙ f); count = g.count; reach = omega arith }

    pub parting-found : r ≡ true → true ≡ apart_by (rep_at t) (differences_of (statements_of said)) a b
    parting-found f =
        sym
        (ap (λ (xs : List (ℕ × ℕ)). apart_by (rep_at t) xs a b) (differences-are said)
        ∙ grows (λ xs. apart_by (rep_at t) xs a b ≡ true) (λ xs ys. apart-keeps (rep_at t) xs ys a b) (is_difference said) said (suc k) (said_count said)
        (omega (arith, g.count)) (apart_more ∙ sym at ∙ f))

  pub parting-done : m ≤ k → false ≡ apart_by (rep_at t) (differences_of (statements_of said)) a b
  parting-done h =
      let e : k ≡ said_count said = omega (arith, g.reach, g.count) in
      sym
      (ap (λ (xs : List (ℕ × ℕ)). apart_by (rep_at t) xs a b) (differences-are said)
      ∙ subst (λ (x : ℕ). apart_by (rep_at t) (diffs said x) a b ≡ false) e g.so)

pub ruleset mine = (
  rules,
  difference-none,
  difference-one,
  clash-equation,
  clash-sides,
  apart-equation,
  apart-sides,
  either-first,
  either-second,
  either-neither,
  clearing-start,
  clearing-next,
  clearing-found,
  clearing-done,
  parting-start,
  parting-next,
  parting-found,
  parting-done,
)
