-- The stated differences one by one, under a table: the first clash, and whether two classes are kept apart.
--     Clearing, Parting    the loops: no clash so far; not kept apart so far
--     mine                 what `clash`, `apart` and the functions below them leave to show
-- Assumes nothing.
use mathlib.Core.Bool.{Bool, true, false, not, ◌&&◌, ◌||◌}
use mathlib.Core.List.{List, [], ◌∷◌, ◌++◌}
use mathlib.Core.Path.{◌≡◌, refl, ap, ap₂, sym, ◌∙◌, subst}
use Prim.Native.Nat.{ℕ, zero, suc, ◌+◌, ◌≤◌, ◌<◌}
use native.Mathlib.Numerals.{add-one}
use native.Mathlib.Omega.{arith}
use lib.Dec.{eqb, ltb}
use lib.ListN.{length, get_or, length-append, get_or-eq_default}
use borrow.Author.Rules.{rules}
use borrow.Author.Tests.{eqb-true, eqb-false, eq-eqb, ne_eqb, ltb-true, ltb-false}
use Rattle.meaning.specs.Context.{differences_of}
use Rattle.meaning.specs.Equality.{rep_at}
use Rattle.meaning.specs.ByTable.{first, clear, clash_from, clash_of, apart_by}
use Rattle.meaning.specs.Columns.{statements_from}
use Rattle.meaning.proofs.Logic.{or_left, or-none}
use Rattle.closing.specs.Steps.{Read, SideClass, difference_at, clash_at, ClashAt, both_same, either_same, apart_at}
use Rattle.closing.proofs.Pairs.{pair_at, kept, pairs_from, is_difference, differences-are}

-- ---- one place
pub read_past : (l : List ℕ) (k : ℕ) → length l ≡ 510 → length l ≤ k → Read l k 0
read_past l k n h = record { so = sym (get_or-eq_default l 0 h); long = n }

pub side-class : (sides t : List ℕ) (k x w r : ℕ) → Read sides k x → w ≡ x → r ≡ rep_at t w → SideClass sides t k r
side-class sides t k x w r d e q = record { so = q ∙ ap (rep_at t) (e ∙ d.so); long = d.long }

side-zero : {sides t : List ℕ} {k r : ℕ} → SideClass sides t k r → 510 ≤ k → r ≡ rep_at t 0
side-zero {sides} {t} {k} {r} d h = d.so ∙ ap (rep_at t) (get_or-eq_default sides 0 (omega (arith, d.long)))

module _ (kinds : List ℕ) (k : ℕ) (c : Bool) (d : c ≡ eqb (get_or kinds k 0) 2) where
  pub difference-none : c ≡ true → 0 ≡ difference_at kinds k
  unfolding difference_at
  difference-none e = rw (sym d ∙ e, difference_at)

  pub difference-one : c ≡ false → 1 ≡ difference_at kinds k
  unfolding difference_at
  difference-one e = rw (sym d ∙ e, difference_at)

-- ---- one statement

inside_of : (k : ℕ) → (510 ≤ k → ⊥) → k < 510
inside_of k f = go (ltb k 510) refl
  where
    go : (b : Bool) → ltb k 510 ≡ b → k < 510
    go true e = ltb-true k 510 e
    go false e = absurd (f (ltb-false k 510 e))

module _ (kinds lefts rights t : List ℕ) (k : ℕ) (c : Bool) (d : c ≡ eqb (get_or kinds k 0) 2) where
  pub clash-equation : (c ≡ true → k < 510) → c ≡ true → ClashAt kinds lefts rights t k (not c)
  unfolding clash_at
  clash-equation n e = let z : eqb (get_or kinds k 0) 2 ≡ true = sym d ∙ e in record { so = rw (e, z) refl; inside = λ _. n e }

  module _ (p q : ℕ) (n : c ≡ false) (dp : SideClass lefts t k p) (dq : SideClass rights t k q) where
    pub clash-sides : ClashAt kinds lefts rights t k (eqb p q)
    unfolding clash_at
    clash-sides =
        record {
          so = rw (sym d ∙ n) (ap₂ (λ (a b : ℕ). eqb a b) dp.so dq.so);
          inside = λ e. inside_of k (λ h. eqb-false p q e (side-zero dp h ∙ sym (side-zero dq h)));
        }

    pub apart-sides : (a b : ℕ) (r : Bool) → r ≡ either_same a b p q → r ≡ apart_at kinds lefts rights t k a b
    unfolding apart_at
    apart-sides a b r e = rw (sym d ∙ n) (e ∙ ap₂ (λ (u v : ℕ). either_same a b u v) dp.so dq.so)

  pub apart-equation : (a b : ℕ) → c ≡ true → not c ≡ apart_at kinds lefts rights t k a b
  unfolding apart_at
  apart-equation a b e = let z : eqb (get_or kinds k 0) 2 ≡ true = sym d ∙ e in rw (e, z) refl

pub both-none : (a b p q : ℕ) → (a ≡ p → ⊥) → false ≡ both_same a b p q
unfolding both_same
both-none a b p q n = rw (ne_eqb a p n)

pub both-last : (a b p q : ℕ) → a ≡ p → eqb b q ≡ both_same a b p q
unfolding both_same
both-last a b p q e = rw (eq-eqb a p e)

pub either_left : (a b p q : ℕ) (r : Bool) → r ≡ both_same a b p q → r ≡ true → true ≡ either_same a b p q
unfolding either_same
either_left a b p q r e t = sym (or_left (both_same a b p q) (both_same b a p q) (sym e ∙ t))

pub either-right : (a b p q : ℕ) (r s : Bool) → r ≡ both_same a b p q → r ≡ false → s ≡ both_same b a p q → s ≡ either_same a b p q
unfolding either_same
either-right a b p q r s e t f = let z : both_same a b p q ≡ false = sym e ∙ t in rw z f

-- ---- lists of differences

clash-append : (rep : ℕ → ℕ) (i : ℕ) (xs ys : List (ℕ × ℕ)) → clash_from rep i xs ≡ clear → clash_from rep i (xs ++ ys) ≡ clash_from rep (i + length xs) ys
unfolding clash_from
clash-append rep i [] ys e = let z : i ≡ i + 0 = omega arith in ap (λ (x : ℕ). clash_from rep x ys) z
clash-append rep i (x ∷ xs) ys e = go (eqb (rep x.0) (rep x.1)) refl (clash-append rep (suc i) xs ys)
  where
    go : (b : Bool) → eqb (rep x.0) (rep x.1) ≡ b
        → (clash_from rep (suc i) xs ≡ clear → clash_from rep (suc i) (xs ++ ys) ≡ clash_from rep (suc i + length xs) ys)
        → clash_from rep i (x ∷ (xs ++ ys)) ≡ clash_from rep (i + suc (length xs)) ys
    go true q ih = absurd (let y : first i ≡ clear = sym (rw (q, clash_from)) ∙ e in let z : ◌≡◌ {A = ℕ} 0 1 = cc in omega arith)
    go false q ih =
        let z : suc i + length xs ≡ i + suc (length xs) = omega arith in
        rw (q, clash_from) (ih (sym (rw (q, clash_from)) ∙ e) ∙ ap (λ (k : ℕ). clash_from rep k ys) z)

clash-keeps : (rep : ℕ → ℕ) (i n : ℕ) (xs ys : List (ℕ × ℕ)) → clash_from rep i xs ≡ first n → clash_from rep i (xs ++ ys) ≡ first n
unfolding clash_from
clash-keeps rep i n [] ys e = absurd (let z : ◌≡◌ {A = ℕ} 0 1 = cc in omega arith)
clash-keeps rep i n (x ∷ xs) ys e = go (eqb (rep x.0) (rep x.1)) refl (clash-keeps rep (suc i) n xs ys)
  where
    go : (b : Bool) → eqb (rep x.0) (rep x.1) ≡ b → (clash_from rep (suc i) xs ≡ first n → clash_from rep (suc i) (xs ++ ys) ≡ first n)
        → clash_from rep i (x ∷ (xs ++ ys)) ≡ first n
    go true q ih = rw (q, clash_from) (sym (rw (q, clash_from)) ∙ e)
    go false q ih = rw (q, clash_from) (ih (sym (rw (q, clash_from)) ∙ e))

apart-append : (rep : ℕ → ℕ) (xs ys : List (ℕ × ℕ)) (a b : ℕ) → apart_by rep xs a b ≡ false → apart_by rep (xs ++ ys) a b ≡ apart_by rep ys a b
unfolding apart_by
apart-append rep [] ys a b e = refl
apart-append rep (x ∷ xs) ys a b e =
    let here : Bool = (eqb a (rep x.0) && eqb b (rep x.1)) || (eqb b (rep x.0) && eqb a (rep x.1)) in
    let n : (here ≡ false) × (apart_by rep xs a b ≡ false) = or-none here (apart_by rep xs a b) e in
    rw n.0 (apart-append rep xs ys a b n.1)

apart-keeps : (rep : ℕ → ℕ) (xs ys : List (ℕ × ℕ)) (a b : ℕ) → apart_by rep xs a b ≡ true → apart_by rep (xs ++ ys) a b ≡ true
unfolding apart_by
apart-keeps rep [] ys a b e = cc
apart-keeps rep (x ∷ xs) ys a b e =
    let here : Bool = (eqb a (rep x.0) && eqb b (rep x.1)) || (eqb b (rep x.0) && eqb a (rep x.1)) in
    go here refl (apart-keeps rep xs ys a b)
  where
    go : (h : Bool) → ((eqb a (rep x.0) && eqb b (rep x.1)) || (eqb b (rep x.0) && eqb a (rep x.1))) ≡ h
        → (apart_by rep xs a b ≡ true → apart_by rep (xs ++ ys) a b ≡ true)
        → (((eqb a (rep x.0) && eqb b (rep x.1)) || (eqb b (rep x.0) && eqb a (rep x.1))) || apart_by rep (xs ++ ys) a b) ≡ true
    go true q ih = rw q
    go false q ih = rw q (ih (rw q at e))

-- ---- the loops: the first k statements are passed

abbrev diffs : List ℕ → List ℕ → List ℕ → ℕ → List (ℕ × ℕ)
diffs kinds lefts rights k = pairs_from (is_difference kinds) lefts rights k

-- what holds of the differences of the first k statements, and goes on holding, holds of all
grows : (P : List (ℕ × ℕ) → Type 0) → ((xs ys : List (ℕ × ℕ)) → P xs → P (xs ++ ys)) → (keep : ℕ → Bool) (lefts rights : List ℕ) (k m : ℕ) → k ≤ m
    → P (pairs_from keep lefts rights k) → P (pairs_from keep lefts rights m)
unfolding pairs_from
grows P f keep lefts rights k zero h p = let e : k ≡ 0 = omega arith in subst (λ (x : ℕ). P (pairs_from keep lefts rights x)) e p
grows P f keep lefts rights k (suc m) h p = go (eqb k (suc m)) refl (grows P f keep lefts rights k m)
  where
    go : (b : Bool) → eqb k (suc m) ≡ b → (k ≤ m → P (pairs_from keep lefts rights k) → P (pairs_from keep lefts rights m)) → P (pairs_from keep lefts rights (suc m))
    go true e ih = subst (λ (x : ℕ). P (pairs_from keep lefts rights x)) (eqb-true k (suc m) e) p
    go false e ih = f (pairs_from keep lefts rights m) (kept (keep m) (pair_at lefts rights m)) (ih (omega (arith, eqb-false k (suc m) e)) p)

-- ---- the pair of one statement, where it is a difference

abbrev one : List ℕ → List ℕ → List ℕ → ℕ → List (ℕ × ℕ)
one kinds lefts rights k = kept (is_difference kinds k) (pair_at lefts rights k)

module _ (kinds lefts rights t : List ℕ) (k : ℕ) where
  one-length : difference_at kinds k ≡ length (one kinds lefts rights k)
  unfolding difference_at
  one-length = go (eqb (get_or kinds k 0) 2) refl
    where
      go : (b : Bool) → eqb (get_or kinds k 0) 2 ≡ b → difference_at kinds k ≡ length (one kinds lefts rights k)
      go true e = rw (e, difference_at)
      go false e = rw (e, difference_at)

  one-clear : (n : ℕ) → clash_at kinds lefts rights t k ≡ false → clash_from (rep_at t) n (one kinds lefts rights k) ≡ clear
  unfolding clash_at clash_from
  one-clear n f = go (eqb (get_or kinds k 0) 2) refl
    where
      go : (b : Bool) → eqb (get_or kinds k 0) 2 ≡ b → clash_from (rep_at t) n (one kinds lefts rights k) ≡ clear
      go true e = rw e
      go false e = let q : eqb (rep_at t (get_or lefts k 0)) (rep_at t (get_or rights k 0)) ≡ false = rw e at f in rw (e, q, clash_from)

  one-first : (n : ℕ) → clash_at kinds lefts rights t k ≡ true → clash_from (rep_at t) n (one kinds lefts rights k) ≡ first n
  unfolding clash_at clash_from
  one-first n f = go (eqb (get_or kinds k 0) 2) refl
    where
      go : (b : Bool) → eqb (get_or kinds k 0) 2 ≡ b → clash_from (rep_at t) n (one kinds lefts rights k) ≡ first n
      go true e = let q : false ≡ true = rw e at f in absurd (let z : ◌≡◌ {A = ℕ} 0 1 = cc in omega arith)
      go false e = let q : eqb (rep_at t (get_or lefts k 0)) (rep_at t (get_or rights k 0)) ≡ true = rw e at f in rw (e, q, clash_from)

  one_apart : (a b : ℕ) → apart_by (rep_at t) (one kinds lefts rights k) a b ≡ apart_at kinds lefts rights t k a b
  unfolding apart_at apart_by either_same both_same
  one_apart a b = go (eqb (get_or kinds k 0) 2) refl
    where
      or-false : (x : Bool) → (x || false) ≡ x
      or-false true = refl
      or-false false = refl

      go : (c : Bool) → eqb (get_or kinds k 0) 2 ≡ c → apart_by (rep_at t) (one kinds lefts rights k) a b ≡ apart_at kinds lefts rights t k a b
      go true e = rw e
      go false e = rw e (or-false _)

-- ---- the first clash
pub record Clearing (kinds lefts rights : List ℕ) (m : ℕ) (t : List ℕ) (n k : ℕ) : Type 0 where
  pub so : clash_of (rep_at t) (pairs_from (is_difference kinds) lefts rights k) ≡ clear
  pub number : n ≡ length (pairs_from (is_difference kinds) lefts rights k)
  pub few : n ≤ k
  pub reach : k ≤ m
  pub inside : k ≤ 510

pub clearing-start : (kinds lefts rights : List ℕ) (m : ℕ) (t : List ℕ) → Clearing kinds lefts rights m t 0 0
unfolding pairs_from clash_of clash_from
clearing-start kinds lefts rights m t = record { so = refl; number = refl; few = omega arith; reach = omega arith; inside = omega arith }

module _ {kinds lefts rights : List ℕ} {m : ℕ} {t : List ℕ} {n k : ℕ} (g : Clearing kinds lefts rights m t n k) where
  -- one statement more
  clash-more : clash_of (rep_at t) (diffs kinds lefts rights (suc k)) ≡ clash_from (rep_at t) n (one kinds lefts rights k)
  unfolding pairs_from clash_of
  clash-more =
      let z : 0 + length (diffs kinds lefts rights k) ≡ n = omega (arith, g.number) in
      clash-append (rep_at t) 0 (diffs kinds lefts rights k) (one kinds lefts rights k) g.so ∙ ap (λ (x : ℕ). clash_from (rep_at t) x (one kinds lefts rights k)) z

  length_more : length (diffs kinds lefts rights (suc k)) ≡ n + difference_at kinds k
  unfolding pairs_from
  length_more = omega (arith, length-append (diffs kinds lefts rights k) (one kinds lefts rights k), g.number, one-length kinds lefts rights t k)

  pub clearing-next : (r : Bool) (d : ℕ) → k < m → ClashAt kinds lefts rights t k r → r ≡ false → d ≡ difference_at kinds k → d ≤ 1
      → Clearing kinds lefts rights m t (n + d) (k + 1)
  clearing-next r d h at e ed low =
      record {
        so = rw add-one (clash-more ∙ one-clear kinds lefts rights t k n (sym at.so ∙ e));
        number = rw add-one (omega (arith, length_more));
        few = omega (arith, g.few);
        reach = omega arith;
        inside = omega (arith, at.inside e);
      }

  pub clearing-found : (r : Bool) → k < m → ClashAt kinds lefts rights t k r → r ≡ true
      → first n ≡ clash_of (rep_at t) (differences_of (statements_from kinds lefts rights m))
  unfolding clash_of
  clearing-found r h at e =
      sym
      (ap (clash_of (rep_at t)) (differences-are kinds lefts rights m)
      ∙ grows (λ xs. clash_of (rep_at t) xs ≡ first n) (λ xs ys. clash-keeps (rep_at t) 0 n xs ys) (is_difference kinds) lefts rights (suc k) m (omega arith)
      (clash-more ∙ one-first kinds lefts rights t k n (sym at.so ∙ e)))

  pub clearing-done : m ≤ k → clear ≡ clash_of (rep_at t) (differences_of (statements_from kinds lefts rights m))
  clearing-done h =
      let e : k ≡ m = omega (arith, g.reach) in
      sym
      (ap (clash_of (rep_at t)) (differences-are kinds lefts rights m)
      ∙ subst (λ (x : ℕ). clash_of (rep_at t) (diffs kinds lefts rights x) ≡ clear) e g.so)

-- ---- whether two classes are kept apart
pub record Parting (kinds lefts rights : List ℕ) (m : ℕ) (t : List ℕ) (a b k : ℕ) : Type 0 where
  pub so : apart_by (rep_at t) (pairs_from (is_difference kinds) lefts rights k) a b ≡ false
  pub reach : k ≤ m

pub parting-start : (kinds lefts rights : List ℕ) (m : ℕ) (t : List ℕ) (a b : ℕ) → Parting kinds lefts rights m t a b 0
unfolding pairs_from apart_by
parting-start kinds lefts rights m t a b = record { so = refl; reach = omega arith }

module _ {kinds lefts rights : List ℕ} {m : ℕ} {t : List ℕ} {a b k : ℕ} (g : Parting kinds lefts rights m t a b k) where
  apart_more : apart_by (rep_at t) (diffs kinds lefts rights (suc k)) a b ≡ apart_at kinds lefts rights t k a b
  unfolding pairs_from
  apart_more = apart-append (rep_at t) (diffs kinds lefts rights k) (one kinds lefts rights k) a b g.so ∙ one_apart kinds lefts rights t k a b

  pub parting-next : (r : Bool) → k < m → r ≡ apart_at kinds lefts rights t k a b → r ≡ false → Parting kinds lefts rights m t a b (k + 1)
  parting-next r h e f = record { so = rw add-one (apart_more ∙ sym e ∙ f); reach = omega arith }

  pub parting-found : (r : Bool) → k < m → r ≡ apart_at kinds lefts rights t k a b → r ≡ true
      → true ≡ apart_by (rep_at t) (differences_of (statements_from kinds lefts rights m)) a b
  parting-found r h e f =
      sym
      (ap (λ (xs : List (ℕ × ℕ)). apart_by (rep_at t) xs a b) (differences-are kinds lefts rights m)
      ∙ grows (λ xs. apart_by (rep_at t) xs a b ≡ true) (λ xs ys. apart-keeps (rep_at t) xs ys a b) (is_difference kinds) lefts rights (suc k) m (omega arith)
      (apart_more ∙ sym e ∙ f))

  pub parting-done : m ≤ k → false ≡ apart_by (rep_at t) (differences_of (statements_from kinds lefts rights m)) a b
  parting-done h =
      let e : k ≡ m = omega (arith, g.reach) in
      sym
      (ap (λ (xs : List (ℕ × ℕ)). apart_by (rep_at t) xs a b) (differences-are kinds lefts rights m)
      ∙ subst (λ (x : ℕ). apart_by (rep_at t) (diffs kinds lefts rights x) a b ≡ false) e g.so)

pub ruleset mine = (
  rules,
  read_past,
  side-class,
  difference-none,
  difference-one,
  clash-equation,
  clash-sides,
  apart-equation,
  apart-sides,
  both-none,
  both-last,
  either_left,
  either-right,
  clearing-start,
  clearing-next,
  clearing-found,
  clearing-done,
  parting-start,
  parting-next,
  parting-found,
  parting-done,
)
