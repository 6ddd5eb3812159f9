-- Boxes: for each variable the places still open. What is inside a box, and which members of a set are.
--     Box, Inside, AllIn                  places for each variable; an assignment inside them; an assignment within one list of places
--     Rising, Good, OfRows                places in rising order; a box of such places, all from one list; a choice and a box from one list
--     Open                                the members of a set that begin with a choice and go on inside a box
--     open-split, open_none, open-leaf    by the next place and the places after it; where no place is left; where no variable is left
--     good-replicate, open-replicate      the box that has one list for every variable
-- Assumes nothing.
use mathlib.Core.List.{List, [], ◌∷◌, ◌++◌, append-nil, append_assoc}
use mathlib.Core.Path.{◌≡◌, refl, ap, sym, ◌∙◌}
use mathlib.Core.Logic.{◌⊎◌, inl, inr, ⊎_elim, ◌↔◌}
use Prim.Native.Nat.{ℕ, zero, suc, ◌<◌}
use native.Mathlib.Omega.{arith}
use lib.ListN.{length, replicate}
use Rattle.meaning.specs.Rules.{Before, Below}
use Rattle.meaning.proofs.Order.{Split, before-append}

abbrev pub Box : Type 0
Box = List (List ℕ)

abbrev pub Mem : ℕ → List ℕ → Type 0
Mem x [] = ⊥
Mem x (y ∷ l) = (x ≡ y) ⊎ Mem x l

pub mem_below : (n x : ℕ) (l : List ℕ) → Below n l → Mem x l → x < n
mem_below n x [] b m = absurd m
mem_below n x (y ∷ l) b (inl e) = omega (arith, b.0, e)
mem_below n x (y ∷ l) b (inr m) = mem_below n x l b.1 m

abbrev pub Inside : Box → List ℕ → Type 0
Inside [] [] = Unit {0}
Inside [] (x ∷ a) = ⊥
Inside (l ∷ box) [] = ⊥
Inside (l ∷ box) (x ∷ a) = Mem x l × Inside box a

-- each place is one of the rows
abbrev pub AllIn : List ℕ → List ℕ → Type 0
AllIn rows [] = Unit {0}
AllIn rows (x ∷ a) = Mem x rows × AllIn rows a

-- the members of a set that begin with the chosen places and go on inside the box
pub record Open (So : List ℕ → Type 0) (chosen : List ℕ) (box : Box) (a : List ℕ) : Type 0 where
  pub rest : List ℕ
  pub whole : a ≡ chosen ++ rest
  pub inside : Inside box rest
  pub so : So a

abbrev pub Above : ℕ → List ℕ → Type 0
Above x [] = Unit {0}
Above x (y ∷ l) = (x < y) × Above x l

abbrev pub Rising : List ℕ → Type 0
Rising [] = Unit {0}
Rising (x ∷ l) = Above x l × Rising l

-- for each variable some of the rows, rising
abbrev pub Good : List ℕ → Box → Type 0
Good rows [] = Unit {0}
Good rows (l ∷ box) = (Rising l × AllIn rows l) × Good rows box

pub above-mem : (x y : ℕ) (l : List ℕ) → Above x l → Mem y l → x < y
above-mem x y [] h m = absurd m
above-mem x y (z ∷ l) h (inl e) = omega (arith, h.0, e)
above-mem x y (z ∷ l) h (inr m) = above-mem x y l h.1 m

pub mem-all : (rows : List ℕ) (x : ℕ) (l : List ℕ) → AllIn rows l → Mem x l → Mem x rows
mem-all rows x [] b m = absurd m
mem-all rows x (y ∷ l) b (inl e) = rw e b.0
mem-all rows x (y ∷ l) b (inr m) = mem-all rows x l b.1 m

all_snoc : (rows : List ℕ) (x : ℕ) (l : List ℕ) → AllIn rows l → Mem x rows → AllIn rows (l ++ (x ∷ []))
all_snoc rows x [] b h = (h, tt)
all_snoc rows x (y ∷ l) b h = (b.0, all_snoc rows x l b.1 h)

pub all-self : (rows l : List ℕ) → ((x : ℕ) → Mem x l → Mem x rows) → AllIn rows l
all-self rows [] f = tt
all-self rows (x ∷ l) f = (f x (inl refl), all-self rows l (λ y m. f y (inr m)))

-- the choice has rows only, and so has the box
abbrev pub OfRows : List ℕ → List ℕ → Box → Type 0
OfRows rows chosen box = AllIn rows chosen × Good rows box

pub of-rows-next : (rows chosen : List ℕ) (l : List ℕ) (box : Box) → AllIn rows chosen → Good rows (l ∷ box) → (x : ℕ) → Mem x l → OfRows rows (chosen ++ (x ∷ [])) box
of-rows-next rows chosen l box i g x m = (all_snoc rows x chosen i (mem-all rows x l g.0.1 m), g.1)

-- ---- the members that begin with a choice

module _ (So : List ℕ → Type 0) where
  -- the next place is tried, and then the places after it
  pub open-split : (chosen : List ℕ) (x : ℕ) (l : List ℕ) (box : Box) → Above x l
      → Split (Open So chosen ((x ∷ l) ∷ box)) (Open So (chosen ++ (x ∷ [])) box) (Open So chosen (l ∷ box))
  open-split chosen x l box up =
      record {
        here = λ a o. record { rest = x ∷ o.rest; whole = o.whole ∙ append_assoc chosen (x ∷ []) o.rest; inside = (inl refl, o.inside); so = o.so };
        later = λ a o. later' a o.rest o.whole o.inside o.so;
        cases = λ a o. cases' a o.rest o.whole o.inside o.so;
        ordered = λ a b o p w. ordered' a b o.rest o.whole p.rest p.whole p.inside w;
      }
    where
      later' : (a r : List ℕ) → a ≡ chosen ++ r → Inside (l ∷ box) r → So a → Open So chosen ((x ∷ l) ∷ box) a
      later' a [] e i s = absurd i
      later' a (y ∷ r) e i s = record { rest = y ∷ r; whole = e; inside = (inr i.0, i.1); so = s }

      cases' : (a r : List ℕ) → a ≡ chosen ++ r → Inside ((x ∷ l) ∷ box) r → So a → Open So (chosen ++ (x ∷ [])) box a ⊎ Open So chosen (l ∷ box) a
      cases' a [] e i s = absurd i
      cases' a (y ∷ r) e i s =
          ⊎_elim
          (λ q. inl (record { rest = r; whole = e ∙ ap (λ (z : ℕ). chosen ++ z ∷ r) q ∙ sym (append_assoc chosen (x ∷ []) r); inside = i.1; so = s }))
          (λ m. inr (record { rest = y ∷ r; whole = e; inside = (m, i.1); so = s }))
          i.0

      ordered' : (a b r : List ℕ) → a ≡ (chosen ++ (x ∷ [])) ++ r → (q : List ℕ) → b ≡ chosen ++ q → Inside (l ∷ box) q → Before b a → ⊥
      ordered' a b r e [] f i w = absurd i
      ordered' a b r e (y ∷ q) f i w =
          let g : a ≡ chosen ++ x ∷ r = e ∙ append_assoc chosen (x ∷ []) r in
          let v : Before (chosen ++ y ∷ q) (chosen ++ x ∷ r) = rw (f, g) at w in
          ⊎_elim (λ h. omega (arith, h, above-mem x y l up i.0)) (λ h. omega (arith, h.0, above-mem x y l up i.0)) (before-append chosen (y ∷ q) (x ∷ r) v)

  -- no place is left for a variable
  pub open_none : (chosen : List ℕ) (box : Box) (a : List ℕ) → Open So chosen ([] ∷ box) a → ⊥
  open_none chosen box a o = go o.rest o.inside
    where
      go : (r : List ℕ) → Inside ([] ∷ box) r → ⊥
      go [] i = i
      go (x ∷ r) i = i.0

  -- every variable is chosen
  pub open-leaf : (chosen a : List ℕ) → Open So chosen [] a → a ≡ chosen
  open-leaf chosen a o = go o.rest o.whole o.inside
    where
      go : (r : List ℕ) → a ≡ chosen ++ r → Inside [] r → a ≡ chosen
      go [] e i = e ∙ append-nil chosen
      go (x ∷ r) e i = absurd i

-- ---- one list for every variable

pub good-replicate : (n : ℕ) (rows : List ℕ) → Rising rows → Good rows (replicate n rows)
good-replicate zero rows up = tt
good-replicate (suc n) rows up = ((up, all-self rows rows (λ x m. m)), good-replicate n rows up)

inside-replicate : (n : ℕ) (rows a : List ℕ) → Inside (replicate n rows) a ↔ ((length a ≡ n) × AllIn rows a)
inside-replicate zero rows [] = (λ i. (refl, tt), λ w. tt)
inside-replicate zero rows (x ∷ a) = (λ i. absurd i, λ w. absurd (omega (arith, w.0)))
inside-replicate (suc n) rows [] = (λ i. absurd i, λ w. absurd (omega (arith, w.0)))
inside-replicate (suc n) rows (x ∷ a) =
    let ih : Inside (replicate n rows) a ↔ ((length a ≡ n) × AllIn rows a) = inside-replicate n rows a in
    (λ i. (ap suc (ih.0 i.1).0, (i.0, (ih.0 i.1).1)), λ w. (w.1.0, ih.1 (omega (arith, w.0), w.1.1)))

pub open-replicate : (So : List ℕ → Type 0) (n : ℕ) (rows a : List ℕ) → ((length a ≡ n) × AllIn rows a × So a) ↔ Open So [] (replicate n rows) a
open-replicate So n rows a = (
  λ w. record { rest = a; whole = refl; inside = (inside-replicate n rows a).1 (w.0, w.1); so = w.2 },
  λ o. let i : (length o.rest ≡ n) × AllIn rows o.rest = (inside-replicate n rows o.rest).0 o.inside in
      (rw o.whole i.0, rw o.whole i.1, o.so),
)
