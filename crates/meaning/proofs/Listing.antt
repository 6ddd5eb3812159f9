-- Lists of all the assignments that are so, in order: there is one, and going on to the next until there is none gives it.
--     order-later, order-cons, order-join    a member stands before all later ones; one more in front; two lists, the one before the other
--     order-at, order-once                   by places: an earlier place holds the earlier assignment, so nothing stands twice
--     enumerates-tail, enumerates-first      what stands after the first; the first is the first of the set
--     enumerates-one                         two lists of one set are equal
--     enumerates-same, enumerates-split      sets with the same members; a set in two parts, the one before the other
--     Nexts, nexts-after                     what is next after a member; the same of those after an assignment
--     enumerates-goes, goes-enumerates       going on from the first until there is none gives exactly the list
--     goes-behind, goes_one                  what is next after a member is the next in the list; there is one way to go on
-- Assumes nothing.
use mathlib.Core.List.{List, [], ◌∷◌, ◌++◌}
use mathlib.Core.Path.{◌≡◌, refl, ap, sym, ◌∙◌, subst}
use mathlib.Core.Logic.{◌⊎◌, inl, inr, ⊎_elim, ◌↔◌}
use Prim.Native.Nat.{ℕ, zero, suc, ◌<◌}
use native.Mathlib.Omega.{arith}
use lib.ListN.{length, get_or}
use Rattle.meaning.specs.Rules.{Before, Found, found, nothing, First}
use Rattle.meaning.specs.Listing.{Member, InOrder, Enumerates, Goes, ends, goes}
use Rattle.meaning.proofs.Order.{before-trans, before-not-self, before-cases, first_one, same_first}

-- ---- order

pub order-later : (a : List ℕ) (l : List (List ℕ)) → InOrder (a ∷ l) → (b : List ℕ) → Member b l → Before a b
order-later a [] h b m = absurd m
order-later a (x ∷ l) h b (inl e) = rw e h.0
order-later a (x ∷ l) h b (inr m) = before-trans a x b h.0 (order-later x l h.1 b m)

pub order-tail : (a : List ℕ) (l : List (List ℕ)) → InOrder (a ∷ l) → InOrder l
order-tail a [] h = tt
order-tail a (x ∷ l) h = h.1

pub order-cons : (a : List ℕ) (l : List (List ℕ)) → ((b : List ℕ) → Member b l → Before a b) → InOrder l → InOrder (a ∷ l)
order-cons a [] f h = tt
order-cons a (x ∷ l) f h = (f x (inl refl), h)

pub member-left : (a : List ℕ) (l m : List (List ℕ)) → Member a l → Member a (l ++ m)
member-left a [] m h = absurd h
member-left a (x ∷ l) m (inl e) = inl e
member-left a (x ∷ l) m (inr h) = inr (member-left a l m h)

pub member_right : (a : List ℕ) (l m : List (List ℕ)) → Member a m → Member a (l ++ m)
member_right a [] m h = h
member_right a (x ∷ l) m h = inr (member_right a l m h)

pub member-cases : (a : List ℕ) (l m : List (List ℕ)) → Member a (l ++ m) → Member a l ⊎ Member a m
member-cases a [] m h = inr h
member-cases a (x ∷ l) m (inl e) = inl (inl e)
member-cases a (x ∷ l) m (inr h) = ⊎_elim (λ w. inl (inr w)) (λ w. inr w) (member-cases a l m h)

pub order-join : (l m : List (List ℕ)) → ((a b : List ℕ) → Member a l → Member b m → Before a b) → InOrder l → InOrder m → InOrder (l ++ m)
order-join [] m f p q = q
order-join (x ∷ l) m f p q =
    order-cons x (l ++ m) (λ b h. ⊎_elim (λ w. order-later x l p b w) (λ w. f x b (inl refl) w) (member-cases b l m h))
    (order-join l m (λ a b v w. f a b (inr v) w) (order-tail x l p) q)

-- ---- by places

pub member-at : (l : List (List ℕ)) (i : ℕ) → i < length l → Member (get_or l i []) l
member-at [] i h = absurd (omega arith)
member-at (x ∷ l) zero h = inl refl
member-at (x ∷ l) (suc i) h = inr (member-at l i (omega arith))

pub order-at : (l : List (List ℕ)) → InOrder l → (i j : ℕ) → i < j → j < length l → Before (get_or l i []) (get_or l j [])
order-at [] h i j p q = absurd (omega arith)
order-at (x ∷ l) h i zero p q = absurd (omega arith)
order-at (x ∷ l) h zero (suc j) p q = order-later x l h (get_or l j []) (member-at l j (omega arith))
order-at (x ∷ l) h (suc i) (suc j) p q = order-at l (order-tail x l h) i j (omega arith) (omega arith)

-- what stands at two places is not the same
pub order-once : (l : List (List ℕ)) → InOrder l → (i j : ℕ) → i < j → j < length l → get_or l i [] ≡ get_or l j [] → ⊥
order-once l h i j p q e = before-not-self (get_or l j []) (subst (λ (a : List ℕ). Before a (get_or l j [])) e (order-at l h i j p q))

-- ---- the list of a set

module _ (So : List ℕ → Type 0) where
  pub enumerates-tail : (x : List ℕ) (l : List (List ℕ)) → Enumerates So (x ∷ l) → Enumerates (λ a. So a × Before x a) l
  enumerates-tail x l p =
      record {
        sound = λ a m. (p.sound a (inr m), order-later x l p.order a m);
        complete = λ a s. ⊎_elim (λ e. absurd (before-not-self x (subst (Before x) e s.1))) (λ m. m) (p.complete a s.0);
        order = order-tail x l p.order;
      }

  pub enumerates-first : (x : List ℕ) (l : List (List ℕ)) → Enumerates So (x ∷ l) → First So (found x)
  enumerates-first x l p = (
    p.sound x (inl refl),
    λ b s w. ⊎_elim (λ e. before-not-self x (subst (λ (z : List ℕ). Before z x) e w))
        (λ m. before-not-self x (before-trans x b x (order-later x l p.order b m) w))
        (p.complete b s),
  )

  pub enumerates-none : Enumerates So [] → First So nothing
  enumerates-none p = λ b s. p.complete b s

pub enumerates-same : {Old New : List ℕ → Type 0} → ((a : List ℕ) → Old a ↔ New a) → (l : List (List ℕ)) → Enumerates New l → Enumerates Old l
enumerates-same f l p = record { sound = λ a m. (f a).1 (p.sound a m); complete = λ a s. p.complete a ((f a).0 s); order = p.order }

pub enumerates-split : {All Here Later : List ℕ → Type 0} → ((a : List ℕ) → All a ↔ (Here a ⊎ Later a)) → ((a b : List ℕ) → Here a → Later b → Before a b)
    → (l m : List (List ℕ)) → Enumerates Here l → Enumerates Later m → Enumerates All (l ++ m)
enumerates-split f g l m p q =
    record {
      sound = λ a h. (f a).1 (⊎_elim (λ w. inl (p.sound a w)) (λ w. inr (q.sound a w)) (member-cases a l m h));
      complete = λ a s. ⊎_elim (λ w. member-left a l m (p.complete a w)) (λ w. member_right a l m (q.complete a w)) ((f a).0 s);
      order = order-join l m (λ a b v w. g a b (p.sound a v) (q.sound b w)) p.order q.order;
    }

same_head : (So : List ℕ → Type 0) (x y : List ℕ) (l m : List (List ℕ)) → Enumerates So (x ∷ l) → Enumerates So (y ∷ m) → x ≡ y
same_head So x y l m p q = go (q.complete x (p.sound x (inl refl))) (p.complete y (q.sound y (inl refl)))
  where
    go : Member x (y ∷ m) → Member y (x ∷ l) → x ≡ y
    go (inl e) w = e
    go (inr v) (inl e) = sym e
    go (inr v) (inr w) = absurd (before-not-self x (before-trans x y x (order-later x l p.order y w) (order-later y m q.order x v)))

pub enumerates-one : (So : List ℕ → Type 0) (l m : List (List ℕ)) → Enumerates So l → Enumerates So m → l ≡ m
enumerates-one So [] [] p q = refl
enumerates-one So [] (y ∷ m) p q = absurd (p.complete y (q.sound y (inl refl)))
enumerates-one So (x ∷ l) [] p q = absurd (q.complete x (p.sound x (inl refl)))
enumerates-one So (x ∷ l) (y ∷ m) p q =
    let e : x ≡ y = same_head So x y l m p q in
    let t : Enumerates (λ a. So a × Before x a) m = subst (λ (z : List ℕ). Enumerates (λ a. So a × Before z a) m) (sym e) (enumerates-tail So y m q) in
    let f : l ≡ m = enumerates-one (λ a. So a × Before x a) l m (enumerates-tail So x l p) t in
    cc

-- ---- going on

-- what is next after each member is the first of those after it
pub record Nexts (So : List ℕ → Type 0) (n : ℕ) (next : List ℕ → Found) : Type 0 where
  pub long : (a : List ℕ) → So a → length a ≡ n
  pub first : (a : List ℕ) → So a → First (λ b. So b × Before a b) (next a)

-- the same of those after an assignment
pub nexts-after : (So : List ℕ → Type 0) (n : ℕ) (next : List ℕ → Found) → Nexts So n next → (x : List ℕ) → Nexts (λ a. So a × Before x a) n next
nexts-after So n next p x =
    record {
      long = λ a s. p.long a s.0;
      first = λ a s. same_first (λ b. (λ w. (w.0.0, w.1), λ w. ((w.0, before-trans x a b s.1 w.1), w.1))) (next a) (p.first a s.0);
    }

module _ (n : ℕ) (next : List ℕ → Found) where
  pub enumerates-goes : (So : List ℕ → Type 0) → Nexts So n next → (r : Found) → First So r → (l : List (List ℕ)) → Enumerates So l → Goes next r l
  enumerates-goes So p r f [] e = subst (λ (z : Found). Goes next z []) (sym (first_one So n p.long r nothing f (enumerates-none So e))) ends
  enumerates-goes So p r f (x ∷ l) e =
      subst (λ (z : Found). Goes next z (x ∷ l)) (sym (first_one So n p.long r (found x) f (enumerates-first So x l e)))
      (goes x l (enumerates-goes (λ a. So a × Before x a) (nexts-after So n next p x) (next x) (p.first x (e.sound x (inl refl))) l (enumerates-tail So x l e)))

  pub goes-enumerates : (So : List ℕ → Type 0) → Nexts So n next → (r : Found) → First So r → (l : List (List ℕ)) → Goes next r l → Enumerates So l
  goes-enumerates So p r f m ends = record { sound = λ a m. absurd m; complete = λ a s. f a s; order = tt }
  goes-enumerates So p r f m (goes x l g) =
      let t : Enumerates (λ a. So a × Before x a) l =
      goes-enumerates (λ a. So a × Before x a) (nexts-after So n next p x) (next x) (p.first x f.0) l g in
      record {
        sound = λ a m. ⊎_elim (λ e. subst So (sym e) f.0) (λ w. (t.sound a w).0) m;
        complete = λ a s. ⊎_elim (λ e. inl (sym e)) (⊎_elim (λ w. inr (t.complete a (s, w))) (λ w. absurd (f.1 a s w))) (before-cases x a (p.long x f.0 ∙ sym (p.long a s)));
        order = order-cons x l (λ b m. (t.sound b m).1) t.order;
      }

  -- what stands behind a member is where going on from it leads
  pub goes-behind : (r : Found) (l : List (List ℕ)) (a : List ℕ) (m : List (List ℕ)) → Goes next r (l ++ a ∷ m) → Goes next (next a) m
  goes-behind r [] a m (goes x k g) = g
  goes-behind r (y ∷ l) a m (goes x k g) = goes-behind (next y) l a m g

  pub goes_one : (r : Found) (l m : List (List ℕ)) → Goes next r l → Goes next r m → l ≡ m
  goes_one r l m ends ends = refl
  goes_one r l m (goes x a p) (goes y b q) = ap (x ∷◌) (goes_one (next x) a b p q)
