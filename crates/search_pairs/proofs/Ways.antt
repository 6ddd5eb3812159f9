-- One equation followed from a closed table: the classes get labels, and the rows that may have to be joined next are marked.
--     move-two, differ-place          two classes that a join makes one; two lists that agree only after it
--     way-start                       own labels and no marks
--     way-join, way-unmark            one join, and one mark less
--     way-done, way-clash             nothing is marked, and no sides are equal; two members of the labels joined are kept apart
-- Assumes nothing.
use mathlib.Core.Bool.{Bool, true, false}
use mathlib.Core.List.{List, [], ◌∷◌, map}
use mathlib.Core.Path.{◌≡◌, refl, ap, ap₂, sym, ◌∙◌, subst}
use mathlib.Core.Logic.{◌⊎◌, inl, inr, ⊎_elim}
use Prim.Native.Nat.{ℕ, suc, ◌<◌}
use native.Mathlib.Omega.{arith}
use native.Mathlib.Decide.{ℕ_discrete}
use lib.ListN.{length, get_or, length-map}
use Rattle.meaning.specs.Context.{row_at, term_at, Context, equations_of, equations, differences_of, differences, left_at, right_at}
use Rattle.meaning.specs.Equality.{Equal, Consistent, Representatives, symmetric, transitive}
use Rattle.meaning.specs.Formed.{Fit}
use Rattle.meaning.specs.ByTable.{apart_by}
use Rattle.meaning.specs.Following.{with_equation, follows_by, differ_by}
use Rattle.meaning.specs.Closing.{Sofar, move}
use Rattle.meaning.proofs.Logic.{false-true}
use Rattle.meaning.proofs.Lists.{below_at}
use Rattle.meaning.proofs.Model.{Closed}
use Rattle.meaning.proofs.Progress.{move-cases, merge_keeps}
use Rattle.meaning.proofs.Closes.{agree-equal}
use Rattle.meaning.proofs.Promised.{representatives-closed, closed-representatives, model-rows}
use Rattle.meaning.proofs.Apartness.{Hits, Meets, apart_by-true, apart_by-symmetric}
use Rattle.meaning.proofs.Following.{with-fit, differ-rows}
use Rattle.meaning.proofs.FollowingClosing.{closed-sofar, further-closed}
use Rattle.meaning.proofs.FollowingTable.{follows_by-true}
use Rattle.meaning.proofs.FollowingNumbers.{differ_by-rows, differ_by-table}
use Rattle.search_pairs.specs.Ready.{arg_of, arg_count}
use Rattle.search_pairs.specs.Steps.{Two, SameSymbol, SameArgs, Way}

-- ---- two lists that agree only after a join

pub move-two : (lo hi x y : ℕ) → move lo hi x ≡ move lo hi y → (x ≡ y) ⊎ Two lo hi x y
move-two lo hi x y e = go (move-cases lo hi x) (move-cases lo hi y)
  where
    go : ((x ≡ hi) × (move lo hi x ≡ lo)) ⊎ ((x ≡ hi → ⊥) × (move lo hi x ≡ x))
        → ((y ≡ hi) × (move lo hi y ≡ lo)) ⊎ ((y ≡ hi → ⊥) × (move lo hi y ≡ y)) → (x ≡ y) ⊎ Two lo hi x y
    go (inl p) (inl q) = inl (p.0 ∙ sym q.0)
    go (inl p) (inr q) = inr (inr (p.0, sym q.1 ∙ sym e ∙ p.1))
    go (inr p) (inl q) = inr (inl (sym p.1 ∙ e ∙ q.1, q.0))
    go (inr p) (inr q) = inl (sym p.1 ∙ e ∙ q.1)

abbrev pub Place : (ℕ → ℕ) → ℕ → ℕ → List ℕ → List ℕ → Type 0
Place f lo hi l m = (k : ℕ) × (k < length l) × (k < length m) × Two lo hi (f (get_or l k 0)) (f (get_or m k 0))

pub differ-place : (f : ℕ → ℕ) (lo hi : ℕ) (l m : List ℕ) → map (λ x. move lo hi (f x)) l ≡ map (λ x. move lo hi (f x)) m
    → (map f l ≡ map f m) ⊎ Place f lo hi l m
differ-place f lo hi [] [] e = inl refl
differ-place f lo hi [] (y ∷ m) e = absurd (let z : ◌≡◌ {A = ℕ} 0 1 = cc in omega arith)
differ-place f lo hi (x ∷ l) [] e = absurd (let z : ◌≡◌ {A = ℕ} 0 1 = cc in omega arith)
differ-place f lo hi (x ∷ l) (y ∷ m) e =
    let h : move lo hi (f x) ≡ move lo hi (f y) = cc in
    let t : map (λ x. move lo hi (f x)) l ≡ map (λ x. move lo hi (f x)) m = cc in
    go (move-two lo hi (f x) (f y) h) (differ-place f lo hi l m t)
  where
    go : (f x ≡ f y) ⊎ Two lo hi (f x) (f y) → (map f l ≡ map f m) ⊎ Place f lo hi l m → (map f (x ∷ l) ≡ map f (y ∷ m)) ⊎ Place f lo hi (x ∷ l) (y ∷ m)
    go (inr w) i = inr (0, omega arith, omega arith, w)
    go (inl p) (inl q) = inl (ap₂ ◌∷◌ p q)
    go (inl p) (inr w) = inr (suc w.0, omega (arith, w.1), omega (arith, w.2), w.3)

map_same : (f g : ℕ → ℕ) (n : ℕ) → ((x : ℕ) → x < n → f x ≡ g x) → (l : List ℕ) → ((k : ℕ) → k < length l → get_or l k 0 < n) → map f l ≡ map g l
map_same f g n e [] h = refl
map_same f g n e (x ∷ l) h = ap₂ ◌∷◌ (e x (h 0 (omega arith))) (map_same f g n e l (λ k i. h (suc k) (omega arith)))

-- ---- on the way

module _ (c : Context) (fit : Fit c) (free : Consistent c) (rep : ℕ → ℕ) (reps : Representatives c rep) (i j : ℕ) (hi : i < length c.rows) (hj : j < length c.rows) where
  abbrev count : ℕ
  count = length c.rows

  abbrev more : List (ℕ × ℕ)
  more = (i, j) ∷ equations c

  closed : Closed c.rows (equations c) rep
  closed = representatives-closed c fit rep reps

  inside : (r : ℕ) → r < count → rep r < count
  inside r h = (reps r h).row

  -- no class is kept apart from itself
  self-apart : (a : ℕ) → apart_by rep (differences c) a a ≡ false
  self-apart a = go (apart_by rep (differences c) a a) refl
    where
      go : (b : Bool) → apart_by rep (differences c) a a ≡ b → apart_by rep (differences c) a a ≡ false
      go false e = e
      go true e =
          let w : (k : ℕ) × (k < length (differences c)) × Meets rep a a (get_or (differences c) k (0, 0)) = (apart_by-true rep (differences c) a a).0 e in
          absurd (free w.0 (
            w.1,
            (model-rows c fit rep reps _ _ (fit.apart w.0 w.1).0 (fit.apart w.0 w.1).1).1
                (⊎_elim (λ m. sym m.0 ∙ m.1) (λ m. sym m.0 ∙ m.1) w.2),
          ))

  below : (r k : ℕ) → r < count → k < arg_count c.rows r → arg_of c.rows r k < count
  below r k h l = omega (arith, below_at r (row_at c.rows r).args (fit.ordered r h) k l)

  -- labels that are the same on the classes
  args-same : (lab lab' : ℕ → ℕ) → ((a : ℕ) → a < count → lab' a ≡ lab a) → (r : ℕ) → r < count
      → map (λ x. lab' (rep x)) (row_at c.rows r).args ≡ map (λ x. lab (rep x)) (row_at c.rows r).args
  args-same lab lab' e r h = map_same (λ x. lab' (rep x)) (λ x. lab (rep x)) count (λ x l. e (rep x) (inside x l)) (row_at c.rows r).args (λ k l. below r k h l)

  pub way-start : (lab : ℕ → ℕ) (marked : ℕ → Bool) → ((a : ℕ) → a < count → lab a ≡ a) → Way c rep i j lab marked
  way-start lab marked own =
      record {
        so = record {
          low = λ r h. omega (arith, own (rep r) (inside r h), closed.low r h);
          settled = λ r h. rw (own (rep r) (inside r h), closed.settled r h) (own (rep r) (inside r h));
          sound = λ r h. rw (own (rep r) (inside r h)) (start.sound r h);
        };
        agreeing = λ r s h l e f.
            inl (ap lab (closed.alike r s h l e (sym (plain r h) ∙ f ∙ plain s l)));
        apart = λ a b h l e. subst (λ (x : ℕ). apart_by rep (differences c) a x ≡ false) (sym (own a h) ∙ e ∙ own b l) (self-apart a);
      }
    where
      start : Sofar c.rows more rep
      start = closed-sofar c.rows (equations c) i j rep closed

      plain : (r : ℕ) → r < count → map (λ x. lab (rep x)) (row_at c.rows r).args ≡ map rep (row_at c.rows r).args
      plain r h = args-same (λ a. a) lab own r h

  module _ (lab : ℕ → ℕ) (marked : ℕ → Bool) (way : Way c rep i j lab marked) where
    -- two rows that are equal, and their labels
    module _ (p q : ℕ) (hp : p < count) (hq : q < count) (same : Equal c.rows more (term_at c.rows p) (term_at c.rows q))
        (lo up : ℕ) (two : Two lo up (lab (rep p)) (lab (rep q))) where
      at-lo : lab (rep lo) ≡ lo
      at-lo = ⊎_elim (λ w. rw (sym w.0) (way.so.settled p hp)) (λ w. rw (sym w.1) (way.so.settled q hq)) two

      at_up : lab (rep up) ≡ up
      at_up = ⊎_elim (λ w. rw (sym w.1) (way.so.settled q hq)) (λ w. rw (sym w.0) (way.so.settled p hp)) two

      within : up < count
      within = ⊎_elim (λ w. omega (arith, way.so.low q hq)) (λ w. omega (arith, way.so.low p hp)) two

      equals : Equal c.rows more (term_at c.rows up) (term_at c.rows lo)
      equals = ⊎_elim (λ w. rw (sym w.0, sym w.1) (symmetric across)) (λ w. rw (sym w.0, sym w.1) across) two
        where
          across : Equal c.rows more (term_at c.rows (lab (rep p))) (term_at c.rows (lab (rep q)))
          across = transitive (symmetric (way.so.sound p hp)) (transitive same (way.so.sound q hq))

      module _ (less : lo < up) (lab' : ℕ → ℕ) (marked' : ℕ → Bool) (moved : (a : ℕ) → a < count → lab' a ≡ move lo up (lab a))
          (kept : (r : ℕ) → r < count → marked r ≡ true → marked' r ≡ true)
          (reached : (r s k : ℕ) → r < count → s < count → SameSymbol c.rows r s → arg_count c.rows r ≡ arg_count c.rows s → k < arg_count c.rows r
          → Two lo up (lab (rep (arg_of c.rows r k))) (lab (rep (arg_of c.rows s k))) → (marked' r ≡ true) ⊎ (marked' s ≡ true))
          (clear : (a b : ℕ) → a < count → b < count → lab a ≡ lo → lab b ≡ up → apart_by rep (differences c) a b ≡ false) where
        pub way-join : Way c rep i j lab' marked'
        way-join =
            record {
              so = merge_keeps c.rows more (λ r. lab (rep r)) (λ r. lab' (rep r)) lo up way.so less within at-lo at_up equals
                  (λ r h. moved (rep r) (inside r h));
              agreeing = agrees;
              apart = parts;
            }
          where
            after : (r : ℕ) → r < count → map (λ x. lab' (rep x)) (row_at c.rows r).args ≡ map (λ x. move lo up (lab (rep x))) (row_at c.rows r).args
            after r h = args-same (λ a. move lo up (lab a)) lab' moved r h

            agrees : (r s : ℕ) → r < count → s < count → SameSymbol c.rows r s → SameArgs c.rows (λ x. lab' (rep x)) r s
                → (lab' (rep r) ≡ lab' (rep s)) ⊎ ((marked' r ≡ true) ⊎ (marked' s ≡ true))
            agrees r s h l e f = go (differ-place (λ x. lab (rep x)) lo up (row_at c.rows r).args (row_at c.rows s).args g)
              where
                g : map (λ x. move lo up (lab (rep x))) (row_at c.rows r).args ≡ map (λ x. move lo up (lab (rep x))) (row_at c.rows s).args
                g = sym (after r h) ∙ f ∙ after s l

                long : arg_count c.rows r ≡ arg_count c.rows s
                long =
                    sym (length-map (row_at c.rows r).args (λ x. move lo up (lab (rep x))))
                    ∙ ap length g
                    ∙ length-map (row_at c.rows s).args (λ x. move lo up (lab (rep x)))

                go : SameArgs c.rows (λ x. lab (rep x)) r s ⊎ Place (λ x. lab (rep x)) lo up (row_at c.rows r).args (row_at c.rows s).args
                    → (lab' (rep r) ≡ lab' (rep s)) ⊎ ((marked' r ≡ true) ⊎ (marked' s ≡ true))
                go (inr w) = inr (reached r s w.0 h l e long w.1 w.3)
                go (inl a) =
                    ⊎_elim
                    (λ z. inl (moved (rep r) (inside r h) ∙ ap (move lo up) z ∙ sym (moved (rep s) (inside s l))))
                    (λ z. inr (⊎_elim (λ y. inl (kept r h y)) (λ y. inr (kept s l y)) z))
                    (way.agreeing r s h l e a)

            parts : (a b : ℕ) → a < count → b < count → lab' a ≡ lab' b → apart_by rep (differences c) a b ≡ false
            parts a b h l e =
                ⊎_elim (λ z. way.apart a b h l z)
                (λ z. ⊎_elim (λ w. clear a b h l w.0 w.1) (λ w. apart_by-symmetric rep (differences c) a b ∙ clear b a l h w.1 w.0) z)
                (move-two lo up (lab a) (lab b) (sym (moved a h) ∙ e ∙ moved b l))

      -- members of the two labels that are kept apart
      pub way-clash : (a b : ℕ) → lab a ≡ lo → lab b ≡ up → apart_by rep (differences c) a b ≡ true → differ_by c i j ≡ true
      unfolding equations_of differences_of
      way-clash a b ea eb e = (differ_by-rows c fit i j hi hj).0 ((differ-rows c i j).1 (w.0, (w.1, sides w.2)))
        where
          w : (k : ℕ) × (k < length (differences c)) × Meets rep a b (get_or (differences c) k (0, 0))
          w = (apart_by-true rep (differences c) a b).0 e

          l : ℕ
          l = left_at (differences c) w.0

          r : ℕ
          r = right_at (differences c) w.0

          -- a side and the label of its class
          side : (x y z : ℕ) → x < count → y ≡ rep x → lab y ≡ z → Equal c.rows more (term_at c.rows x) (term_at c.rows z)
          side x y z h e f = subst (λ (k : ℕ). Equal c.rows more (term_at c.rows x) (term_at c.rows k)) (ap lab (sym e) ∙ f) (way.so.sound x h)

          sides : Meets rep a b (get_or (differences c) w.0 (0, 0)) → Equal c.rows more (term_at c.rows l) (term_at c.rows r)
          sides (inl m) =
              transitive (side l a lo (fit.apart w.0 w.1).0 m.0 ea) (transitive (symmetric equals) (symmetric (side r b up (fit.apart w.0 w.1).1 m.1 eb)))
          sides (inr m) =
              transitive (side l b up (fit.apart w.0 w.1).0 m.0 eb) (transitive equals (symmetric (side r a lo (fit.apart w.0 w.1).1 m.1 ea)))

    -- two rows that agree are equal
    pub way_equal : (r s : ℕ) → r < count → s < count → SameSymbol c.rows r s → SameArgs c.rows (λ x. lab (rep x)) r s → Equal c.rows more (term_at c.rows r) (term_at c.rows s)
    way_equal r s h l e f = agree-equal c.rows more fit.ordered (λ x. lab (rep x)) way.so r s h l e f

    -- one mark less, where each row that agrees with it has its label
    pub way-unmark : (r : ℕ) (marked' : ℕ → Bool) → ((s : ℕ) → s < count → SameSymbol c.rows r s → SameArgs c.rows (λ x. lab (rep x)) r s → lab (rep r) ≡ lab (rep s))
        → ((s : ℕ) → s < count → (s ≡ r → ⊥) → marked s ≡ true → marked' s ≡ true) → Way c rep i j lab marked'
    way-unmark r marked' none kept = record { so = way.so; agreeing = agrees; apart = way.apart }
      where
        agrees : (x y : ℕ) → x < count → y < count → SameSymbol c.rows x y → SameArgs c.rows (λ z. lab (rep z)) x y → (lab (rep x) ≡ lab (rep y)) ⊎ ((marked' x ≡ true) ⊎ (marked' y ≡ true))
        agrees x y h l e f = go (ℕ_discrete x r) (ℕ_discrete y r)
          where
            go : Dec (x ≡ r) → Dec (y ≡ r) → (lab (rep x) ≡ lab (rep y)) ⊎ ((marked' x ≡ true) ⊎ (marked' y ≡ true))
            go (yes z) d = inl (rw z (none y l (rw z at e) (rw z at f)))
            go (no z) (yes w) = inl (rw w (sym (none x h (sym (rw w at e)) (sym (rw w at f)))))
            go (no z) (no w) = ⊎_elim (λ g. inl g) (λ g. inr (⊎_elim (λ m. inl (kept x h z m)) (λ m. inr (kept y l w m)) g)) (way.agreeing x y h l e f)

    -- nothing is marked
    pub way-done : ((r : ℕ) → r < count → marked r ≡ false) → lab (rep i) ≡ lab (rep j) → differ_by c i j ≡ false
    unfolding equations_of
    way-done none e = differ_by-table c fit i j hi hj (λ r. lab (rep r)) table ∙ go (follows_by (λ r. lab (rep r)) (differences c)) refl
      where
        alike : (r s : ℕ) → r < count → s < count → SameSymbol c.rows r s → SameArgs c.rows (λ x. lab (rep x)) r s → lab (rep r) ≡ lab (rep s)
        alike r s h l f g =
            ⊎_elim (λ z. z) (λ z. ⊎_elim (λ y. false-true y (none r h)) (λ y. false-true y (none s l)) z) (way.agreeing r s h l f g)

        table : Representatives (with_equation c i j) (λ r. lab (rep r))
        table =
            closed-representatives (with_equation c i j) (with-fit c fit i j hi hj) (λ r. lab (rep r))
            (further-closed c.rows (equations c) i j rep closed fit.within (λ r. lab (rep r)) way.so (λ x y hx hy q. ap lab q) e alike)

        go : (b : Bool) → follows_by (λ r. lab (rep r)) (differences c) ≡ b → follows_by (λ r. lab (rep r)) (differences c) ≡ false
        go false f = f
        go true f =
            let w : (n : ℕ) × Hits (λ r. lab (rep r)) (differences c) n = (follows_by-true (λ r. lab (rep r)) (differences c)).0 f in
            let l : ℕ = left_at (differences c) w.0 in
            let r : ℕ = right_at (differences c) w.0 in
            false-true ((apart_by-true rep (differences c) (rep l) (rep r)).1 (w.0, w.1.0, inl (refl, refl)))
            (way.apart (rep l) (rep r) (inside l (fit.apart w.0 w.1.0).0) (inside r (fit.apart w.0 w.1.0).1) w.1.1)
