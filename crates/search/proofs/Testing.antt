-- Literals tried one by one.
--     pass-early, pass-equal, pass-unequal    one literal
--     all-passed, one-failed                  all literals
-- Assumes nothing.
use mathlib.Core.Bool.{Bool, true, false, not, ◌&&◌, ◌||◌}
use mathlib.Core.List.{List, [], ◌∷◌, ◌++◌}
use mathlib.Core.Path.{◌≡◌, refl, sym, ap, ap₂, ◌∙◌}
use Prim.Native.Nat.{ℕ, zero, suc, ◌<◌, max}
use native.Mathlib.Omega.{arith}
use lib.Dec.{eqb}
use borrow.Author.Tests.{eqb-true, eqb-false, eq-eqb, ne_eqb}
use lib.ListN.{get_or}
use Rattle.meaning.specs.Rules.{Literal}
use Rattle.meaning.specs.Columns.{literal_of, literals_from}
use Rattle.meaning.specs.FirstBy.{holds_by}
use Rattle.meaning.specs.Pruning.{fails, due}
use Rattle.meaning.proofs.Built.{literal_at}
use Rattle.search.specs.Testing.{passes_of}

or_assoc : (a b c : Bool) → (a || (b || c)) ≡ ((a || b) || c)
or_assoc true b c = refl
or_assoc false b c = refl

or-false : (a : Bool) → (a || false) ≡ a
or-false true = refl
or-false false = refl

-- ---- one literal

due-of : (level : ℕ) (levels : List ℕ) (sign p q : ℕ) → due level levels (literal_of sign p q) ≡ eqb (max (get_or levels p 0) (get_or levels q 0)) level
unfolding due literal_of
due-of level levels sign p q = go (eqb sign 6) refl
  where
    go : (b : Bool) → eqb sign 6 ≡ b → due level levels (literal_of sign p q) ≡ eqb (max (get_or levels p 0) (get_or levels q 0)) level
    go true e = rw (e, literal_of)
    go false e = rw (e, literal_of)

not-not : (b : Bool) → not (not b) ≡ b
not-not true = refl
not-not false = refl

module _ (differs : ℕ → ℕ → Bool) (level : ℕ) (levels values : List ℕ) (sign p q a b w : ℕ) (ea : a ≡ p) (eb : b ≡ q) (ew : w ≡ max (get_or levels a 0) (get_or levels b 0)) where
  level-of : w ≡ max (get_or levels p 0) (get_or levels q 0)
  level-of = ew ∙ ap₂ max (ap (λ x. get_or levels x 0) ea) (ap (λ x. get_or levels x 0) eb)

  pub pass-early : (w ≡ level → ⊥) → true ≡ passes_of differs (due level levels) values (literal_of sign p q)
  unfolding passes_of
  pass-early n = rw (due-of level levels sign p q, ne_eqb (max (get_or levels p 0) (get_or levels q 0)) level (λ e. n (level-of ∙ e)))

  module _ (now : w ≡ level) (r : Bool) where
    asked : due level levels (literal_of sign p q) ≡ true
    asked = due-of level levels sign p q ∙ eq-eqb (max (get_or levels p 0) (get_or levels q 0)) level (sym level-of ∙ now)

    pub pass-equal : sign ≡ 6 → r ≡ eqb (get_or values a 0) (get_or values b 0) → r ≡ passes_of differs (due level levels) values (literal_of sign p q)
    unfolding passes_of holds_by literal_of
    pass-equal s e =
        rw (asked, eq-eqb sign 6 s, literal_of)
        (e ∙ ap₂ eqb (ap (λ x. get_or values x 0) ea) (ap (λ x. get_or values x 0) eb) ∙ sym (not-not (eqb (get_or values p 0) (get_or values q 0))))

    pub pass-unequal : (sign ≡ 6 → ⊥) → r ≡ differs (get_or values a 0) (get_or values b 0) → r ≡ passes_of differs (due level levels) values (literal_of sign p q)
    unfolding passes_of holds_by literal_of
    pass-unequal s e =
        rw (asked, ne_eqb sign 6 s, literal_of)
        (e ∙ ap₂ differs (ap (λ x. get_or values x 0) ea) (ap (λ x. get_or values x 0) eb) ∙ sym (not-not (differs (get_or values p 0) (get_or values q 0))))

-- ---- all literals

module _ (differs : ℕ → ℕ → Bool) (asks : Literal → Bool) (values : List ℕ) where
  fails-append : (l m : List Literal) → fails differs asks values (l ++ m) ≡ (fails differs asks values l || fails differs asks values m)
  unfolding fails
  fails-append [] m = refl
  fails-append (x ∷ l) m =
      ap ((asks x && not (holds_by differs values x)) ||◌) (fails-append l m)
      ∙ or_assoc (asks x && not (holds_by differs values x)) (fails differs asks values l) (fails differs asks values m)

  module _ (signs firsts seconds : List ℕ) where
    abbrev fails_to : ℕ → Bool
    fails_to m = fails differs asks values (literals_from signs firsts seconds m)

    abbrev passes_at : ℕ → Bool
    passes_at j = passes_of differs asks values (literal_at signs firsts seconds j)

    not-or : (a c : Bool) → not (a || c) ≡ (not a && not c)
    not-or true c = refl
    not-or false c = refl

    fails-next : (m : ℕ) → not (fails_to (suc m)) ≡ (not (fails_to m) && passes_at m)
    unfolding literals_from fails passes_of
    fails-next m =
        let z : Bool = asks (literal_at signs firsts seconds m) && not (holds_by differs values (literal_at signs firsts seconds m)) in
        ap not (fails-append (literals_from signs firsts seconds m) (literal_at signs firsts seconds m ∷ []) ∙ ap (fails_to m ||◌) (or-false z))
        ∙ not-or (fails_to m) z

    pub all-passed : (m : ℕ) → ((j : ℕ) → j < m → passes_at j ≡ true) → true ≡ not (fails_to m)
    unfolding literals_from fails
    all-passed zero h = refl
    all-passed (suc m) h = sym (fails-next m ∙ ap₂ ◌&&◌ (sym (all-passed m (λ j l. h j (omega arith)))) (h m (omega arith)))

    pub one-failed : (m j : ℕ) → j < m → passes_at j ≡ false → false ≡ not (fails_to m)
    one-failed zero j h e = absurd (omega arith)
    one-failed (suc m) j h e = go (eqb j m) refl (λ l. one-failed m j l e)
      where
        and-false : (a : Bool) → (a && false) ≡ false
        and-false true = refl
        and-false false = refl

        go : (b : Bool) → eqb j m ≡ b → (j < m → false ≡ not (fails_to m)) → false ≡ not (fails_to (suc m))
        go true q ih =
            sym (fails-next m ∙ ap (not (fails_to m) &&◌) (ap passes_at (sym (eqb-true j m q)) ∙ e) ∙ and-false (not (fails_to m)))
        go false q ih = let l : j < m = omega (arith, eqb-false j m q) in sym (fails-next m ∙ ap (◌&& passes_at m) (sym (ih l)))
