-- The numbers of entries tell terms apart: an entry has the number of the first earlier entry that is like it, and else its own place.
--     alike-terms, terms-alike   entries that are alike stand for one term, and the reverse
--     Outcome, faithful-next     a number found or a place of its own; either keeps numbers faithful
--     numbers_of-faithful         the numbers that are computed are faithful
-- Assumes nothing.
use mathlib.Core.Bool.{Bool, true, false}
use mathlib.Core.List.{List, [], ◌∷◌}
use mathlib.Core.Path.{◌≡◌, refl, ap, ap₂, sym, ◌∙◌, subst}
use mathlib.Core.Logic.{◌⊎◌, inl, inr}
use Prim.Native.Nat.{ℕ, zero, suc, ◌+◌, ◌≤◌, ◌<◌}
use native.Mathlib.Omega.{arith}
use lib.Dec.{eqb, ltb}
use borrow.Author.Tests.{eqb-true, eq-eqb, ltb-true, ltb-false}
use lib.ListN.{length, get_or-append}
use lib.Seq.{get_or_at}
use Rattle.meaning.specs.Context.{node, more, Row, row_at, pick, terms, term_at}
use Rattle.meaning.specs.Rules.{Below}
use Rattle.meaning.specs.Formed.{Ordered}
use Rattle.meaning.specs.Values.{number_at, args_of}
use Rattle.meaning.specs.Checking.{key_of, same_key, alike, number_like, numbers_to, numbers_of, Faithful}
use Rattle.meaning.proofs.Logic.{and-true-left, and-true-right, false-true}
use Rattle.meaning.proofs.Lists.{below_wider, same_list-true, same_list-self, length-snoc}
use Rattle.meaning.proofs.Table.{term-at}

-- ---- terms and numbers of arguments

module _ (es : List Row) (ns : List ℕ) (n : ℕ) (w : Faithful es ns n) where
  pub numbers-pick : (l m : List ℕ) → Below n l → Below n m → args_of ns l ≡ args_of ns m → pick (terms es) l ≡ pick (terms es) m
  unfolding pick
  numbers-pick [] [] b d e = refl
  numbers-pick [] (y ∷ m) b d e = cc
  numbers-pick (x ∷ l) [] b d e = cc
  numbers-pick (x ∷ l) (y ∷ m) b d e =
      let h : number_at ns x ≡ number_at ns y = cc in
      let t : args_of ns l ≡ args_of ns m = cc in
      ap₂ more (w.sound x y b.0 d.0 h) (numbers-pick l m b.1 d.1 t)

  pub pick-numbers : (l m : List ℕ) → Below n l → Below n m → pick (terms es) l ≡ pick (terms es) m → args_of ns l ≡ args_of ns m
  unfolding pick
  pick-numbers [] [] b d e = refl
  pick-numbers [] (y ∷ m) b d e = cc
  pick-numbers (x ∷ l) [] b d e = cc
  pick-numbers (x ∷ l) (y ∷ m) b d e =
      let h : term_at es x ≡ term_at es y = cc in
      let t : pick (terms es) l ≡ pick (terms es) m = cc in
      ap₂ ◌∷◌ (w.complete x y b.0 d.0 h) (pick-numbers l m b.1 d.1 t)

  module _ (ordered : Ordered es) (i j : ℕ) (hi : i ≤ n) (hj : j ≤ n) (li : i < length es) (lj : j < length es) where
    args-below : (q : ℕ) → q ≤ n → q < length es → Below n (row_at es q).args
    args-below q h l = below_wider q n (row_at es q).args h (ordered q l)

    pub alike-terms : alike es ns i j ≡ true → term_at es i ≡ term_at es j
    unfolding alike same_key key_of
    alike-terms e =
        let f : (row_at es i).symbol ≡ (row_at es j).symbol = eqb-true _ _ (and-true-left (eqb (row_at es i).symbol (row_at es j).symbol) _ e) in
        let g : args_of ns (row_at es i).args ≡ args_of ns (row_at es j).args =
        same_list-true _ _ (and-true-right (eqb (row_at es i).symbol (row_at es j).symbol) _ e) in
        term-at es ordered i li
        ∙ ap₂ node f (numbers-pick (row_at es i).args (row_at es j).args (args-below i hi li) (args-below j hj lj) g)
        ∙ sym (term-at es ordered j lj)

    pub terms-alike : term_at es i ≡ term_at es j → alike es ns i j ≡ true
    unfolding alike same_key key_of
    terms-alike e =
        let x : node (row_at es i).symbol (pick (terms es) (row_at es i).args) ≡ node (row_at es j).symbol (pick (terms es) (row_at es j).args) =
        sym (term-at es ordered i li) ∙ e ∙ term-at es ordered j lj in
        let f : (row_at es i).symbol ≡ (row_at es j).symbol = cc in
        let g : pick (terms es) (row_at es i).args ≡ pick (terms es) (row_at es j).args = cc in
        rw (
          eq-eqb (row_at es i).symbol (row_at es j).symbol f,
          pick-numbers (row_at es i).args (row_at es j).args (args-below i hi li) (args-below j hj lj) g,
        )
        (same_list-self _)

-- ---- one entry more

-- the number of an earlier entry that is like entry n; or no earlier entry is, and it is n
abbrev pub Outcome : List Row → List ℕ → ℕ → ℕ → Type 0
Outcome es ns n x =
    ((j : ℕ) × (j < n) × (alike es ns n j ≡ true) × (x ≡ number_at ns j)) ⊎ (((j : ℕ) → j < n → alike es ns n j ≡ false) × (x ≡ n))

below-cases : (i n : ℕ) → i < suc n → (i < n) ⊎ (i ≡ n)
below-cases i n h = go (ltb i n) refl
  where
    go : (b : Bool) → ltb i n ≡ b → (i < n) ⊎ (i ≡ n)
    go true e = inl (ltb-true i n e)
    go false e = inr (omega (arith, ltb-false i n e))

module _ (es : List Row) (ns ms : List ℕ) (n : ℕ) (ordered : Ordered es) (w : Faithful es ns n) (inside : n < length es)
    (kept : (j : ℕ) → j < n → number_at ms j ≡ number_at ns j) where
  -- an earlier entry with the number and the term of entry i
  abbrev Witness : ℕ → Type 0
  Witness i = (q : ℕ) × (q < n) × (number_at ms i ≡ number_at ns q) × (term_at es i ≡ term_at es q)

  module _ (witness : (i : ℕ) → i < suc n → Witness i) where
    by-witness : Faithful es ms (suc n)
    by-witness =
        record {
          low = λ i h. bounded i h (below-cases i n h);
          settled = λ i h.
              let q : Witness i = witness i h in
              let y : number_at ms i < n = omega (arith, w.low q.0 q.1, q.1, q.2) in
              kept (number_at ms i) y ∙ ap (number_at ns) q.2 ∙ w.settled q.0 q.1 ∙ sym q.2;
          sound = λ i j h l e.
              let p : Witness i = witness i h in
              let q : Witness j = witness j l in
              p.3 ∙ w.sound p.0 q.0 p.1 q.1 (sym p.2 ∙ e ∙ q.2) ∙ sym q.3;
          complete = λ i j h l e.
              let p : Witness i = witness i h in
              let q : Witness j = witness j l in
              p.2 ∙ w.complete p.0 q.0 p.1 q.1 (sym p.3 ∙ e ∙ q.3) ∙ sym q.2;
        }
      where
        bounded : (i : ℕ) → i < suc n → (i < n) ⊎ (i ≡ n) → number_at ms i ≤ i
        bounded i h (inl l) = omega (arith, kept i l, w.low i l)
        bounded i h (inr e) = let q : Witness i = witness i h in omega (arith, w.low q.0 q.1, q.1, q.2)

  faithful-hit : (j : ℕ) → j < n → alike es ns n j ≡ true → number_at ms n ≡ number_at ns j → Faithful es ms (suc n)
  faithful-hit j h e x = by-witness (λ i l. go i (below-cases i n l))
    where
      go : (i : ℕ) → (i < n) ⊎ (i ≡ n) → Witness i
      go i (inl l) = (i, l, kept i l, refl)
      go i (inr q) = rw q (j, h, x, alike-terms es ns n w ordered n j (omega arith) (omega arith) inside (omega arith) e)

  faithful-miss : ((j : ℕ) → j < n → alike es ns n j ≡ false) → number_at ms n ≡ n → Faithful es ms (suc n)
  faithful-miss e x =
      record {
        low = λ i h. low' i (below-cases i n h);
        settled = λ i h. settled' i (below-cases i n h);
        sound = λ i j h l q. sound' i j (below-cases i n h) (below-cases j n l) q;
        complete = λ i j h l q. complete' i j (below-cases i n h) (below-cases j n l) q;
      }
    where
      low' : (i : ℕ) → (i < n) ⊎ (i ≡ n) → number_at ms i ≤ i
      low' i (inl l) = omega (arith, kept i l, w.low i l)
      low' i (inr q) = rw q (omega (arith, x))

      settled' : (i : ℕ) → (i < n) ⊎ (i ≡ n) → number_at ms (number_at ms i) ≡ number_at ms i
      settled' i (inl l) =
          let y : number_at ns i < n = omega (arith, w.low i l) in rw (kept i l) (kept (number_at ns i) y ∙ w.settled i l)
      settled' i (inr q) = rw (q, x) x

      new : (j : ℕ) → j < n → term_at es n ≡ term_at es j → ⊥
      new j l q = false-true (terms-alike es ns n w ordered n j (omega arith) (omega arith) inside (omega arith) q) (e j l)

      sound' : (i j : ℕ) → (i < n) ⊎ (i ≡ n) → (j < n) ⊎ (j ≡ n) → number_at ms i ≡ number_at ms j → term_at es i ≡ term_at es j
      sound' i j (inl h) (inl l) q = w.sound i j h l (sym (kept i h) ∙ q ∙ kept j l)
      sound' i j (inl h) (inr l) q = absurd (omega (arith, kept i h, w.low i h, x, q, ap (number_at ms) l))
      sound' i j (inr h) (inl l) q = absurd (omega (arith, kept j l, w.low j l, x, q, ap (number_at ms) h))
      sound' i j (inr h) (inr l) q = ap (term_at es) (h ∙ sym l)

      complete' : (i j : ℕ) → (i < n) ⊎ (i ≡ n) → (j < n) ⊎ (j ≡ n) → term_at es i ≡ term_at es j → number_at ms i ≡ number_at ms j
      complete' i j (inl h) (inl l) q = kept i h ∙ w.complete i j h l q ∙ sym (kept j l)
      complete' i j (inl h) (inr l) q = absurd (new i h (sym (q ∙ ap (term_at es) l)))
      complete' i j (inr h) (inl l) q = absurd (new j l (sym (ap (term_at es) h) ∙ q))
      complete' i j (inr h) (inr l) q = ap (number_at ms) (h ∙ sym l)

  pub faithful-next : Outcome es ns n (number_at ms n) → Faithful es ms (suc n)
  faithful-next (inl a) = faithful-hit a.0 a.1 a.2 a.3
  faithful-next (inr a) = faithful-miss a.0 a.1

-- ---- the numbers that are computed

-- among n entries from j on
abbrev OutcomeFrom : List Row → List ℕ → ℕ → ℕ → ℕ → ℕ → Type 0
OutcomeFrom es ns i j n x =
    ((q : ℕ) × (q < j + n) × (alike es ns i q ≡ true) × (x ≡ number_at ns q))
    ⊎ (((q : ℕ) → j ≤ q → q < j + n → alike es ns i q ≡ false) × (x ≡ i))

like-outcome : (es : List Row) (ns : List ℕ) (i j n : ℕ) → OutcomeFrom es ns i j n (number_like es ns i j n)
unfolding number_like
like-outcome es ns i j zero = inr (λ q h l. absurd (omega arith), refl)
like-outcome es ns i j (suc n) = go (alike es ns i j) refl (like-outcome es ns i (suc j) n)
  where
    go : (b : Bool) → alike es ns i j ≡ b → OutcomeFrom es ns i (suc j) n (number_like es ns i (suc j) n) → OutcomeFrom es ns i j (suc n) (number_like es ns i j (suc n))
    go true e r = inl (j, omega arith, e, rw (e, number_like))
    go false e (inl r) = inl (r.0, omega (arith, r.1), r.2, rw (e, number_like) r.3)
    go false e (inr r) = inr (λ q h l. other q h l (ltb j q) refl, rw (e, number_like) r.1)
      where
        other : (q : ℕ) → j ≤ q → q < j + suc n → (b : Bool) → ltb j q ≡ b → alike es ns i q ≡ false
        other q h l true x = r.0 q (omega (arith, ltb-true j q x)) (omega arith)
        other q h l false x = let z : q ≡ j = omega (arith, ltb-false j q x) in rw z e

length-numbers_to : (es : List Row) (i : ℕ) → length (numbers_to es i) ≡ i
unfolding numbers_to
length-numbers_to es zero = refl
length-numbers_to es (suc i) = length-snoc (numbers_to es i) _ ∙ ap suc (length-numbers_to es i)

module _ (es : List Row) (ordered : Ordered es) where
  faithful-to : (i : ℕ) → i ≤ length es → Faithful es (numbers_to es i) i
  unfolding numbers_to
  faithful-to zero h =
      record {
        low = λ i l. absurd (omega arith);
        settled = λ i l. absurd (omega arith);
        sound = λ i j l r e. absurd (omega arith);
        complete = λ i j l r e. absurd (omega arith);
      }
  faithful-to (suc i) h =
      faithful-next es ns (numbers_to es (suc i)) i ordered (faithful-to i (omega arith)) (omega arith)
      (λ j l. get_or-append ns _ 0 j (omega (arith, length-numbers_to es i)))
      (subst (Outcome es ns i) (sym (get_or_at ns (number_like es ns i 0 i) [] 0 i (length-numbers_to es i))) (outcome (like-outcome es ns i 0 i)))
    where
      ns : List ℕ
      ns = numbers_to es i

      outcome : OutcomeFrom es ns i 0 i (number_like es ns i 0 i) → Outcome es ns i (number_like es ns i 0 i)
      outcome (inl r) = inl (r.0, omega (arith, r.1), r.2, r.3)
      outcome (inr r) = inr (λ j l. r.0 j (omega arith) (omega arith), r.1)

  pub numbers_of-faithful : Faithful es (numbers_of es) (length es)
  unfolding numbers_of
  numbers_of-faithful = faithful-to (length es) (omega arith)
