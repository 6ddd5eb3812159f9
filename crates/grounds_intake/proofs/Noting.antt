-- The conclusions that are noted are those that count.
--     Note, Notes    what is noted for a literal, and for all sixteen, after some conclusions
--     notes-none     after none
--     notes-more     after one more
--     notes-count    the noted conclusion for a literal is the one that counts
-- Assumes nothing.
use mathlib.Core.Bool.{Bool, true, false, ◌&&◌}
use mathlib.Core.List.{List, [], ◌∷◌, ◌++◌, append_assoc, append-nil}
use mathlib.Core.Path.{◌≡◌, refl, ap, sym, ◌∙◌, subst}
use Prim.Native.Nat.{ℕ, suc, ◌-◌, ◌≤◌, ◌<◌}
use native.Mathlib.Omega.{arith}
use lib.Dec.{eqb, ltb, leb}
use borrow.Author.Tests.{eq-eqb, ne_eqb, eqb-true, eqb-false, lt-ltb, le-leb, ltb-true, leb-true}
use lib.ListN.{length, get_or, length-set, length-replicate}
use lib.Seq.{get_or-set_same, get_or-set_other}
use Rattle.meaning.specs.Grounds.{Conclusion, absent, conclusion_for}
use Rattle.meaning.specs.GroundColumns.{conclusion_from}
use Rattle.grounds_intake.specs.Parsing.{byte_of, two_of, four_of, conclusion_of}
use Rattle.grounds_intake.specs.Machine.{no_conclusions, put_conclusion, wanted, noted}
use Rattle.grounds_intake.specs.declared.Noted.{Noted}
use Rattle.grounds_intake.proofs.Filled.{zeros-at}

abbrev pub noted_at : Noted → ℕ → Conclusion
noted_at n i = conclusion_from n.conclusions.firsts n.conclusions.differences i

pub data Note (n : Noted) (ds : List Conclusion) (i : ℕ) : Type 0 where
  vacant : get_or n.given i 0 ≡ 0 → noted_at n i ≡ absent (suc i) → ((rest : List Conclusion) → conclusion_for (suc i) (ds ++ rest) ≡ conclusion_for (suc i) rest) → Note n ds i
  settled : (get_or n.given i 0 ≡ 0 → ⊥) → ((rest : List Conclusion) → conclusion_for (suc i) (ds ++ rest) ≡ noted_at n i) → Note n ds i

pub record Notes (n : Noted) (ds : List Conclusion) : Type 0 where
  pub firsts : length n.conclusions.firsts ≡ 16
  pub differences : length n.conclusions.differences ≡ 16
  pub given : length n.given ≡ 16
  pub each : (i : ℕ) → i < 16 → Note n ds i

pub notes-none : Notes no_conclusions []
unfolding no_conclusions conclusion_from
notes-none =
    record {
      firsts = length-replicate {A = ℕ} 16 0;
      differences = length-replicate {A = ℕ} 16 0;
      given = length-replicate {A = ℕ} 16 0;
      each = λ i h. vacant (zeros-at 16 i) (rw (zeros-at 16 i)) (λ rest. refl);
    }

pub notes-count : (n : Noted) (ds : List Conclusion) → Notes n ds → (i : ℕ) → i < 16 → noted_at n i ≡ conclusion_for (suc i) ds
unfolding conclusion_for
notes-count n ds w i h = go (w.each i h)
  where
    go : Note n ds i → noted_at n i ≡ conclusion_for (suc i) ds
    go (vacant g e f) = e ∙ sym (f []) ∙ ap (conclusion_for (suc i)) (append-nil ds)
    go (settled g f) = sym (f []) ∙ ap (conclusion_for (suc i)) (append-nil ds)

for-hit : (i : ℕ) (d : Conclusion) (rest : List Conclusion) → d.literal ≡ suc i → conclusion_for (suc i) (d ∷ rest) ≡ d
unfolding conclusion_for
for-hit i d rest e = rw (eq-eqb d.literal (suc i) e, conclusion_for)

for-miss : (i : ℕ) (d : Conclusion) (rest : List Conclusion) → (d.literal ≡ suc i → ⊥) → conclusion_for (suc i) (d ∷ rest) ≡ conclusion_for (suc i) rest
unfolding conclusion_for
for-miss i d rest e = rw (ne_eqb d.literal (suc i) e, conclusion_for)

and_left : (a b : Bool) → (a && b) ≡ true → a ≡ true
and_left true b e = refl
and_left false b e = e

and_right : (a b : Bool) → (a && b) ≡ true → b ≡ true
and_right true b e = e
and_right false b e = absurd (let z : ◌≡◌ {A = ℕ} 0 1 = cc in omega arith)

wanted-true : (given : List ℕ) (x : ℕ) → wanted given x ≡ true → (0 < x) × (x ≤ 16) × (get_or given (x - 1) 0 ≡ 0)
unfolding wanted
wanted-true given x e =
    let r : (leb x 16 && eqb (get_or given (x - 1) 0) 0) ≡ true = and_right (ltb 0 x) _ e in
    (ltb-true 0 x (and_left (ltb 0 x) _ e), leb-true x 16 (and_left (leb x 16) _ r), eqb-true (get_or given (x - 1) 0) 0 (and_right (leb x 16) _ r))

module _ (n : Noted) (ds : List Conclusion) (w : Notes n ds) (vs : List ℕ) where
  literal-is : (conclusion_of vs).literal ≡ byte_of vs 1
  unfolding conclusion_of
  literal-is = refl

  snoc : (i : ℕ) (rest : List Conclusion) → conclusion_for (suc i) ((ds ++ (conclusion_of vs ∷ [])) ++ rest) ≡ conclusion_for (suc i) (ds ++ (conclusion_of vs ∷ rest))
  snoc i rest = ap (conclusion_for (suc i)) (append_assoc ds (conclusion_of vs ∷ []) rest)

  -- the notes stay as they are: the literal is another one, or is settled
  stays : (i : ℕ) → (byte_of vs 1 ≡ suc i → get_or n.given i 0 ≡ 0 → ⊥) → Note n ds i → Note n (ds ++ (conclusion_of vs ∷ [])) i
  stays i f (vacant g e k) =
      vacant g e (λ rest. snoc i rest ∙ k (conclusion_of vs ∷ rest) ∙ for-miss i (conclusion_of vs) rest (λ z. f (sym literal-is ∙ z) g))
  stays i f (settled g k) = settled g (λ rest. snoc i rest ∙ k (conclusion_of vs ∷ rest))

  -- the notes take it at place i
  module _ (i : ℕ) (hi : i < 16) (e : byte_of vs 1 ≡ suc i) (g : get_or n.given i 0 ≡ 0) where
    put-here : noted_at (put_conclusion n vs i) i ≡ conclusion_of vs
    unfolding put_conclusion conclusion_from conclusion_of
    put-here =
        rw (
          get_or-set_same n.conclusions.firsts i (four_of vs 2) 0 (omega (arith, w.firsts)),
          get_or-set_same n.conclusions.differences i (two_of vs 10) 0 (omega (arith, w.differences)),
          e,
        )

    given-here : get_or (put_conclusion n vs i).given i 0 ≡ 1
    unfolding put_conclusion
    given-here = get_or-set_same n.given i 1 0 (omega (arith, w.given))

    settles : Note n ds i → Note (put_conclusion n vs i) (ds ++ (conclusion_of vs ∷ [])) i
    settles (vacant _ _ k) =
        settled (λ z. omega (arith, given-here))
        (λ rest. snoc i rest ∙ k (conclusion_of vs ∷ rest) ∙ for-hit i (conclusion_of vs) rest (literal-is ∙ e) ∙ sym put-here)
    settles (settled f _) = absurd (f g)

    put_other : (j : ℕ) → (j ≡ i → ⊥) → noted_at (put_conclusion n vs i) j ≡ noted_at n j
    unfolding put_conclusion conclusion_from
    put_other j f =
        rw (
          get_or-set_other n.conclusions.firsts i j (four_of vs 2) 0 f,
          get_or-set_other n.conclusions.differences i j (two_of vs 10) 0 f,
        )

    given-other : (j : ℕ) → (j ≡ i → ⊥) → get_or (put_conclusion n vs i).given j 0 ≡ get_or n.given j 0
    unfolding put_conclusion
    given-other j f = get_or-set_other n.given i j 1 0 f

    carries : (j : ℕ) → (j ≡ i → ⊥) → Note n (ds ++ (conclusion_of vs ∷ [])) j → Note (put_conclusion n vs i) (ds ++ (conclusion_of vs ∷ [])) j
    carries j f (vacant a b k) = vacant (given-other j f ∙ a) (put_other j f ∙ b) k
    carries j f (settled a k) = settled (λ z. a (sym (given-other j f) ∙ z)) (λ rest. k rest ∙ sym (put_other j f))

    notes-put : Notes (put_conclusion n vs i) (ds ++ (conclusion_of vs ∷ []))
    unfolding put_conclusion
    notes-put =
        record {
          firsts = length-set n.conclusions.firsts i (four_of vs 2) ∙ w.firsts;
          differences = length-set n.conclusions.differences i (two_of vs 10) ∙ w.differences;
          given = length-set n.given i 1 ∙ w.given;
          each = λ j h. one j h (eqb j i) refl;
        }
      where
        one : (j : ℕ) → j < 16 → (c : Bool) → eqb j i ≡ c → Note (put_conclusion n vs i) (ds ++ (conclusion_of vs ∷ [])) j
        one j h true q = let z : j ≡ i = eqb-true j i q in subst (Note (put_conclusion n vs i) (ds ++ (conclusion_of vs ∷ []))) (sym z) (settles (w.each i hi))
        one j h false q = let f : j ≡ i → ⊥ = eqb-false j i q in carries j f (stays j (λ z k. f (omega arith)) (w.each j h))

  notes-stay : ((i : ℕ) → i < 16 → byte_of vs 1 ≡ suc i → get_or n.given i 0 ≡ 0 → ⊥) → Notes n (ds ++ (conclusion_of vs ∷ []))
  notes-stay f =
      record {
        firsts = w.firsts;
        differences = w.differences;
        given = w.given;
        each = λ i h. stays i (f i h) (w.each i h);
      }

  wants : (i : ℕ) → i < 16 → byte_of vs 1 ≡ suc i → get_or n.given i 0 ≡ 0 → wanted n.given (byte_of vs 1) ≡ true
  unfolding wanted
  wants i h e g =
      let k : byte_of vs 1 - 1 ≡ i = omega arith in
      rw (lt-ltb 0 (byte_of vs 1) (omega arith), le-leb (byte_of vs 1) 16 (omega arith), k, eq-eqb (get_or n.given i 0) 0 g)

  pub notes-more : Notes (noted n vs) (ds ++ (conclusion_of vs ∷ []))
  unfolding noted
  notes-more = go (wanted n.given (byte_of vs 1)) refl
    where
      go : (c : Bool) → wanted n.given (byte_of vs 1) ≡ c → Notes (noted n vs) (ds ++ (conclusion_of vs ∷ []))
      go true q =
          let k : (0 < byte_of vs 1) × (byte_of vs 1 ≤ 16) × (get_or n.given (byte_of vs 1 - 1) 0 ≡ 0) = wanted-true n.given (byte_of vs 1) q in
          rw q (notes-put (byte_of vs 1 - 1) (omega arith) (omega arith) k.2)
      go false q = rw q (notes-stay (λ i h e g. let z : true ≡ false = sym (wants i h e g) ∙ q in let o : ◌≡◌ {A = ℕ} 0 1 = cc in omega arith))
