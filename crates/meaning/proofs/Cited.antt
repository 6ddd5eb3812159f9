-- References, cited steps, owners and stated pairs by numbers: they are those by terms, where the numbers are faithful.
--     Ready                          what is asked: well-formed, each variable with a row, faithful numbers
--     Is                             a number of a term
--     side-stands, stands-side       the number of what a reference stands for
--     cited-cites, cites-cited       a step cited by numbers is one cited by terms
--     true-owner, owner-true         an owner is shared or an unequal literal
--     added-unequal, unequal-added   the added equation of an unequal literal
--     paired-pair, pair-paired       a stated pair
-- Assumes nothing.
use mathlib.Core.Bool.{Bool, true, false, ◌&&◌, ◌||◌}
use mathlib.Core.List.{List, [], ◌∷◌}
use mathlib.Core.Path.{◌≡◌, refl, ap, sym, ◌∙◌, subst}
use mathlib.Core.Logic.{◌⊎◌, inl, inr, ⊎_elim}
use Prim.Native.Nat.{ℕ, zero, suc, ◌+◌, ◌-◌, ◌≤◌, ◌<◌}
use native.Mathlib.Omega.{arith}
use lib.Dec.{eqb, ltb, leb}
use borrow.Author.Tests.{eqb-true, eq-eqb, ne_eqb, ltb-true, lt-ltb, leb-true, le-leb}
use lib.ListN.{length, get_or, take, length-take}
use lib.Seq.{get_or-take}
use Rattle.meaning.specs.Context.{Term, Row, term_at, Context, left_at, right_at}
use Rattle.meaning.specs.Rules.{variables, Literal, equal, unequal, Clause}
use Rattle.meaning.specs.Formed.{Within, Names, NamesAll, Formed}
use Rattle.meaning.specs.Values.{number_at}
use Rattle.meaning.specs.Grounds.{Ref, Step, step_at, literal_at, PairAt, instance_at, Stands, for-row, for-instance, UnequalAt, Cites, Owner, shared, owned, Each}
use Rattle.meaning.specs.Checking.{entries, Faithful, numbered, counts, paired_by, number_below, is_unequal, owner_by, side_of, sides_by, used_by, cited_by, adds_by, added_by}
use Rattle.meaning.proofs.Logic.{and-true-left, and-true-right, and_both, or_cases, or_left, or_right, false-true}
use Rattle.meaning.proofs.Entries.{entry_row, entry-instance, length-map, map_at}

pub counts-true : (limit x : ℕ) → counts limit x ≡ true → (0 < x) × (x ≤ limit)
unfolding counts
counts-true limit x e = (ltb-true 0 x (and-true-left (ltb 0 x) (leb x limit) e), leb-true x limit (and-true-right (ltb 0 x) (leb x limit) e))

pub true-counts : (limit x : ℕ) → 0 < x → x ≤ limit → counts limit x ≡ true
unfolding counts
true-counts limit x h l = and_both (ltb 0 x) (leb x limit) (lt-ltb 0 x h) (le-leb x limit l)

pub length-numbered : (ns : List ℕ) (pairs : List (ℕ × ℕ)) → length (numbered ns pairs) ≡ length pairs
unfolding numbered
length-numbered ns pairs = length-map _ pairs

pub numbered-left : (ns : List ℕ) (pairs : List (ℕ × ℕ)) (i : ℕ) → i < length pairs → left_at (numbered ns pairs) i ≡ number_at ns (left_at pairs i)
unfolding numbered
numbered-left ns pairs i h = ap (λ (p : ℕ × ℕ). p.0) (map_at (λ p. (number_at ns p.0, number_at ns p.1)) pairs i (0, 0) (0, 0) h)

pub numbered-right : (ns : List ℕ) (pairs : List (ℕ × ℕ)) (i : ℕ) → i < length pairs → right_at (numbered ns pairs) i ≡ number_at ns (right_at pairs i)
unfolding numbered
numbered-right ns pairs i h = ap (λ (p : ℕ × ℕ). p.1) (map_at (λ p. (number_at ns p.0, number_at ns p.1)) pairs i (0, 0) (0, 0) h)

pub named-at : (size : ℕ) (ls : List Literal) → NamesAll size ls → (i : ℕ) → i < length ls → Names size (literal_at ls i)
named-at size [] w i h = absurd (omega arith)
named-at size (l ∷ ls) w zero h = w.0
named-at size (l ∷ ls) w (suc i) h = named-at size ls w.1 i (omega arith)

-- well-formed, each variable with a context row, and with faithful numbers for all entries
pub record Ready (c : Context) (k : Clause) (a ns : List ℕ) : Type 0 where
  pub formed : Formed c k
  pub chosen : Each (variables k.patterns) (λ v. (v < length a) × (get_or a v 0 < length c.rows))
  pub faithful : Faithful (entries c.rows a k.patterns) ns (length c.rows + length k.patterns)

module _ (c : Context) (k : Clause) (a : List ℕ) (ns : List ℕ) (ready : Ready c k a ns) where
  abbrev pub n : ℕ
  n = length c.rows

  abbrev pub m : ℕ
  m = length k.patterns

  abbrev pub es : List Row
  es = entries c.rows a k.patterns

  -- x is the number of the term t
  pub record Is (x : ℕ) (t : Term) : Type 0 where
    pub inside : x < n + m
    pub own : number_at ns x ≡ x
    pub term : term_at es x ≡ t

  pub is_one : {x : ℕ} {t u : Term} → Is x t → Is x u → t ≡ u
  is_one p q = sym p.term ∙ q.term

  pub is_same : {x y : ℕ} {t : Term} → Is x t → Is y t → x ≡ y
  is_same {x} {y} p q = sym p.own ∙ ready.faithful.complete x y p.inside q.inside (p.term ∙ sym q.term) ∙ q.own

  pub entry-is : (i : ℕ) → i < n + m → Is (number_at ns i) (term_at es i)
  entry-is i h =
      let l : number_at ns i < n + m = omega (arith, ready.faithful.low i h) in
      record { inside = l; own = ready.faithful.settled i h; term = ready.faithful.sound (number_at ns i) i l h (ready.faithful.settled i h) }

  pub row_is : (i : ℕ) → i < n → Is (number_at ns i) (term_at c.rows i)
  row_is i h = subst (Is (number_at ns i)) (entry_row c.rows a ready.formed.fit.ordered k.patterns ready.chosen i h) (entry-is i (omega arith))

  pub instance-is : (p : ℕ) → p < m → Is (number_at ns (n + p)) (instance_at c k a p)
  instance-is p h = subst (Is (number_at ns (n + p))) (entry-instance c.rows a ready.formed.fit.ordered k.patterns ready.chosen p) (entry-is (n + p) (omega arith))

  -- ---- references

  abbrev pub side : Ref → ℕ
  side r = side_of ns n m r

  below_in : (limit offset row : ℕ) → row < limit → number_below ns (n + m) limit offset row ≡ number_at ns (offset + row)
  unfolding number_below
  below_in limit offset row h = rw (lt-ltb row limit h, number_below)

  below_out : (limit offset row : ℕ) → ltb row limit ≡ false → number_below ns (n + m) limit offset row ≡ n + m
  unfolding number_below
  below_out limit offset row e = rw (e, number_below)

  side-row : (r : Ref) → eqb r.mark 0 ≡ true → side r ≡ number_below ns (n + m) n 0 r.row
  unfolding side_of
  side-row r e = rw (e, side_of)

  side-pattern : (r : Ref) → eqb r.mark 0 ≡ false → eqb r.mark 1 ≡ true → side r ≡ number_below ns (n + m) m n r.row
  unfolding side_of
  side-pattern r e f = rw (e, side_of, f)

  side-none : (r : Ref) → eqb r.mark 0 ≡ false → eqb r.mark 1 ≡ false → side r ≡ n + m
  unfolding side_of
  side-none r e f = rw (e, side_of, f)

  pub stands-side : (r : Ref) (t : Term) → Stands c k a r t → Is (side r) t
  stands-side r t (for-row e h q) =
      rw (side-row r (eq-eqb r.mark 0 e), below_in n 0 r.row h, q)
      (subst (λ (x : ℕ). Is (number_at ns x) (term_at c.rows r.row)) (omega arith) (row_is r.row h))
  stands-side r t (for-instance e h q) =
      rw (side-pattern r (ne_eqb r.mark 0 (λ z. omega arith)) (eq-eqb r.mark 1 e), below_in m n r.row h, q) (instance-is r.row h)

  pub side-stands : (r : Ref) → side r < n + m → (t : Term) × Stands c k a r t
  side-stands r h = go (eqb r.mark 0) (eqb r.mark 1) (ltb r.row n) (ltb r.row m) refl refl refl refl
    where
      go : (b d x y : Bool) → eqb r.mark 0 ≡ b → eqb r.mark 1 ≡ d → ltb r.row n ≡ x → ltb r.row m ≡ y → (t : Term) × Stands c k a r t
      go true d true y e f g i = (term_at c.rows r.row, for-row (eqb-true r.mark 0 e) (ltb-true r.row n g) refl)
      go true d false y e f g i = absurd (omega (arith, side-row r e ∙ below_out n 0 r.row g))
      go false true x true e f g i = (instance_at c k a r.row, for-instance (eqb-true r.mark 1 f) (ltb-true r.row m i) refl)
      go false true x false e f g i = absurd (omega (arith, side-pattern r e f ∙ below_out m n r.row i))
      go false false x y e f g i = absurd (omega (arith, side-none r e f))

  -- ---- steps cited

  pub take_at : (steps : List Step) (limit i : ℕ) → i < limit → step_at (take limit steps) i ≡ step_at steps i
  take_at steps limit i h = get_or-take limit steps i _ h

  sides-stand : (s : Step) (l r : ℕ) (t u : Term) → Is l t → Is r u → sides_by ns n m s.left s.right l r ≡ true → Stands c k a s.left t × Stands c k a s.right u
  unfolding sides_by
  sides-stand s l r t u p q e = (
    one s.left l t p (eqb-true (side s.left) l (and-true-left (eqb (side s.left) l) (eqb (side s.right) r) e)),
    one s.right r u q (eqb-true (side s.right) r (and-true-right (eqb (side s.left) l) (eqb (side s.right) r) e)),
  )
    where
      one : (x : Ref) (y : ℕ) (v : Term) → Is y v → side x ≡ y → Stands c k a x v
      one x y v w f =
          let g : (z : Term) × Stands c k a x z = side-stands x (omega (arith, w.inside)) in
          subst (Stands c k a x) (is_one (subst (λ (b : ℕ). Is b g.0) f (stands-side x g.0 g.1)) w) g.1

  stand-sides : (s : Step) (l r : ℕ) (t u : Term) → Is l t → Is r u → Stands c k a s.left t → Stands c k a s.right u → sides_by ns n m s.left s.right l r ≡ true
  unfolding sides_by
  stand-sides s l r t u p q d f =
      and_both (eqb (side s.left) l) (eqb (side s.right) r) (eq-eqb (side s.left) l (is_same (stands-side s.left t d) p))
      (eq-eqb (side s.right) r (is_same (stands-side s.right u f) q))

  usable-by : (o p : ℕ) → (eqb p 0 || eqb p o) ≡ true → (p ≡ 0) ⊎ (p ≡ o)
  usable-by o p e = ⊎_elim (λ x. inl (eqb-true p 0 x)) (λ x. inr (eqb-true p o x)) (or_cases (eqb p 0) (eqb p o) e)

  usable-true : (o p : ℕ) → (p ≡ 0) ⊎ (p ≡ o) → (eqb p 0 || eqb p o) ≡ true
  usable-true o p w = ⊎_elim (λ x. or_left (eqb p 0) (eqb p o) (eq-eqb p 0 x)) (λ x. or_right (eqb p 0) (eqb p o) (eq-eqb p o x)) w

  pub cited-cites : (steps : List Step) (limit o x l r : ℕ) (t u : Term) → limit ≤ length steps → Is l t → Is r u
      → cited_by ns n m steps limit o x l r ≡ true
      → Cites c k a (take limit steps) o x t u
  unfolding cited_by used_by
  cited-cites steps limit o x l r t u h p q e =
      record {
        place = x - 1;
        counted = omega (arith, b.0);
        inside = omega (arith, b.0, b.1, length-take limit steps);
        usable = rw (take_at steps limit (x - 1) y) (usable-by o s.owner (and-true-left free sides f));
        left = rw (take_at steps limit (x - 1) y) d.0;
        right = rw (take_at steps limit (x - 1) y) d.1;
      }
    where
      s : Step
      s = step_at steps (x - 1)

      free : Bool
      free = eqb s.owner 0 || eqb s.owner o

      sides : Bool
      sides = sides_by ns n m s.left s.right l r

      f : (free && sides) ≡ true
      f = and-true-right (counts limit x) (free && sides) e

      b : (0 < x) × (x ≤ limit)
      b = counts-true limit x (and-true-left (counts limit x) (free && sides) e)

      y : x - 1 < limit
      y = omega (arith, b.0, b.1)

      d : Stands c k a s.left t × Stands c k a s.right u
      d = sides-stand s l r t u p q (and-true-right free sides f)

  pub cites-cited : (steps : List Step) (limit o x l r : ℕ) (t u : Term) → Is l t → Is r u → Cites c k a (take limit steps) o x t u
      → cited_by ns n m steps limit o x l r ≡ true
  unfolding cited_by used_by
  cites-cited steps limit o x l r t u p q d =
      and_both (counts limit x) (used_by ns n m o (step_at steps (x - 1)) l r) (true-counts limit x (omega (arith, d.counted)) (omega (arith, d.counted, h)))
      (rw z
      (and_both (eqb s.owner 0 || eqb s.owner o) (sides_by ns n m s.left s.right l r)
      (usable-true o s.owner (subst (λ (s : Step). (s.owner ≡ 0) ⊎ (s.owner ≡ o)) at-s d.usable))
      (stand-sides s l r t u p q (subst (λ (s : Step). Stands c k a s.left t) at-s d.left) (subst (λ (s : Step). Stands c k a s.right u) at-s d.right))))
    where
      s : Step
      s = step_at steps d.place

      h : d.place < limit
      h = omega (arith, d.inside, length-take limit steps)

      z : x - 1 ≡ d.place
      z = omega (arith, d.counted)

      at-s : step_at (take limit steps) d.place ≡ s
      at-s = take_at steps limit d.place h

  -- ---- unequal literals, as owners and with their equations

  -- literal o, counted from 1, is there
  literal-in : (o : ℕ) → counts (length k.literals) o ≡ true → (o ≡ suc (o - 1)) × (o - 1 < length k.literals)
  literal-in o e =
      let b : (0 < o) × (o ≤ length k.literals) = counts-true (length k.literals) o e in
      (omega (arith, b.0), omega (arith, b.0, b.1))

  literal-counted : (o : ℕ) (t u : Term) → UnequalAt c k a o t u → counts (length k.literals) o ≡ true
  literal-counted o t u w = true-counts (length k.literals) o (omega (arith, w.counted)) (omega (arith, w.counted, w.inside))

  -- the literal that it is
  literal-is : (o : ℕ) (t u : Term) (w : UnequalAt c k a o t u) → literal_at k.literals (o - 1) ≡ unequal w.left_row w.right_row
  literal-is o t u w = let z : o - 1 ≡ w.place = omega (arith, w.counted) in rw z w.literal

  pub true-owner : (o : ℕ) → owner_by k.literals o ≡ true → Owner c k a o
  unfolding owner_by is_unequal
  true-owner o e = ⊎_elim (λ x. shared (eqb-true o 0 x)) (λ x. at_literal x) (or_cases (eqb o 0) (there && is_unequal (literal_at k.literals (o - 1))) e)
    where
      there : Bool
      there = counts (length k.literals) o

      at_literal : (there && is_unequal (literal_at k.literals (o - 1))) ≡ true → Owner c k a o
      at_literal x = go (literal_at k.literals (o - 1)) refl (and-true-right there (is_unequal (literal_at k.literals (o - 1))) x)
        where
          h : (o ≡ suc (o - 1)) × (o - 1 < length k.literals)
          h = literal-in o (and-true-left there (is_unequal (literal_at k.literals (o - 1))) x)

          go : (l : Literal) → literal_at k.literals (o - 1) ≡ l → is_unequal l ≡ true → Owner c k a o
          go (equal p q) f y = false-true y refl
          go (unequal p q) f y =
              owned (instance_at c k a p) (instance_at c k a q)
              (record { place = o - 1; counted = h.0; inside = h.1; left_row = p; right_row = q; literal = f; left = refl; right = refl })

  pub owner-true : (o : ℕ) → Owner c k a o → owner_by k.literals o ≡ true
  unfolding owner_by is_unequal
  owner-true o (shared e) = or_left (eqb o 0) (counts (length k.literals) o && is_unequal (literal_at k.literals (o - 1))) (eq-eqb o 0 e)
  owner-true o (owned t u w) =
      or_right (eqb o 0) (counts (length k.literals) o && is_unequal (literal_at k.literals (o - 1)))
      (and_both (counts (length k.literals) o) (is_unequal (literal_at k.literals (o - 1))) (literal-counted o t u w) (rw (literal-is o t u w) refl))

  pub added-unequal : (o l r : ℕ) (t u : Term) → Is l t → Is r u → added_by ns n m k.literals o l r ≡ true → UnequalAt c k a o t u
  unfolding added_by adds_by
  added-unequal o l r t u p q e = go (literal_at k.literals (o - 1)) refl (and-true-right there adds e)
    where
      there : Bool
      there = counts (length k.literals) o

      adds : Bool
      adds = adds_by ns n m (literal_at k.literals (o - 1)) l r

      h : (o ≡ suc (o - 1)) × (o - 1 < length k.literals)
      h = literal-in o (and-true-left there adds e)

      go : (x : Literal) → literal_at k.literals (o - 1) ≡ x → adds_by ns n m x l r ≡ true → UnequalAt c k a o t u
      go (equal i j) f y = false-true y refl
      go (unequal i j) f y =
          let w : Names m (unequal i j) = subst (Names m) f (named-at m k.literals ready.formed.named (o - 1) h.1) in
          let x : number_at ns (n + i) ≡ l = eqb-true (number_at ns (n + i)) l (and-true-left (eqb (number_at ns (n + i)) l) (eqb (number_at ns (n + j)) r) y) in
          let z : number_at ns (n + j) ≡ r = eqb-true (number_at ns (n + j)) r (and-true-right (eqb (number_at ns (n + i)) l) (eqb (number_at ns (n + j)) r) y) in
          record {
            place = o - 1;
            counted = h.0;
            inside = h.1;
            left_row = i;
            right_row = j;
            literal = f;
            left = is_one p (subst (λ (v : ℕ). Is v (instance_at c k a i)) x (instance-is i w.0));
            right = is_one q (subst (λ (v : ℕ). Is v (instance_at c k a j)) z (instance-is j w.1));
          }

  pub unequal-added : (o l r : ℕ) (t u : Term) → Is l t → Is r u → UnequalAt c k a o t u → added_by ns n m k.literals o l r ≡ true
  unfolding added_by adds_by
  unequal-added o l r t u p q w =
      and_both (counts (length k.literals) o) (adds_by ns n m (literal_at k.literals (o - 1)) l r) (literal-counted o t u w)
      (rw (literal-is o t u w)
      (and_both (eqb (number_at ns (n + w.left_row)) l) (eqb (number_at ns (n + w.right_row)) r)
      (eq-eqb _ l (is_same (subst (Is (number_at ns (n + w.left_row))) (sym w.left) (instance-is w.left_row h.0)) p))
      (eq-eqb _ r (is_same (subst (Is (number_at ns (n + w.right_row))) (sym w.right) (instance-is w.right_row h.1)) q))))
    where
      h : Names m (unequal w.left_row w.right_row)
      h = subst (Names m) w.literal (named-at m k.literals ready.formed.named w.place w.inside)

  -- ---- stated pairs

  pub paired-pair : (pairs : List (ℕ × ℕ)) → Within n pairs → (x l r : ℕ) (t u : Term) → Is l t → Is r u → paired_by (numbered ns pairs) x l r ≡ true
      → PairAt c.rows pairs x t u
  unfolding paired_by
  paired-pair pairs w x l r t u p q e =
      record {
        place = x - 1;
        counted = omega (arith, b.0);
        inside = y;
        left = is_one p (subst (λ (z : ℕ). Is z (term_at c.rows (left_at pairs (x - 1)))) f (row_is (left_at pairs (x - 1)) (w (x - 1) y).0));
        right = is_one q (subst (λ (z : ℕ). Is z (term_at c.rows (right_at pairs (x - 1)))) g (row_is (right_at pairs (x - 1)) (w (x - 1) y).1));
      }
    where
      cb : Bool
      cb = counts (length (numbered ns pairs)) x

      lb : Bool
      lb = eqb (left_at (numbered ns pairs) (x - 1)) l

      rb : Bool
      rb = eqb (right_at (numbered ns pairs) (x - 1)) r

      b : (0 < x) × (x ≤ length (numbered ns pairs))
      b = counts-true (length (numbered ns pairs)) x (and-true-left cb (lb && rb) e)

      y : x - 1 < length pairs
      y = omega (arith, b.0, b.1, length-numbered ns pairs)

      f : number_at ns (left_at pairs (x - 1)) ≡ l
      f = sym (numbered-left ns pairs (x - 1) y) ∙ eqb-true _ l (and-true-left lb rb (and-true-right cb (lb && rb) e))

      g : number_at ns (right_at pairs (x - 1)) ≡ r
      g = sym (numbered-right ns pairs (x - 1) y) ∙ eqb-true _ r (and-true-right lb rb (and-true-right cb (lb && rb) e))

  -- the numbers of the two rows of a stated pair
  pub pair_left : (pairs : List (ℕ × ℕ)) → Within n pairs → (x : ℕ) (t u : Term) → PairAt c.rows pairs x t u → Is (left_at (numbered ns pairs) (x - 1)) t
  pair_left pairs w x t u d =
      let z : x - 1 ≡ d.place = omega (arith, d.counted) in
      rw (z, numbered-left ns pairs d.place d.inside, d.left) (row_is (left_at pairs d.place) (w d.place d.inside).0)

  pub pair-right : (pairs : List (ℕ × ℕ)) → Within n pairs → (x : ℕ) (t u : Term) → PairAt c.rows pairs x t u → Is (right_at (numbered ns pairs) (x - 1)) u
  pair-right pairs w x t u d =
      let z : x - 1 ≡ d.place = omega (arith, d.counted) in
      rw (z, numbered-right ns pairs d.place d.inside, d.right) (row_is (right_at pairs d.place) (w d.place d.inside).1)

  pub pair-counted : (pairs : List (ℕ × ℕ)) (x : ℕ) (t u : Term) → PairAt c.rows pairs x t u → counts (length (numbered ns pairs)) x ≡ true
  pair-counted pairs x t u d =
      true-counts (length (numbered ns pairs)) x (omega (arith, d.counted)) (omega (arith, d.counted, d.inside, length-numbered ns pairs))

  pub pair-paired : (pairs : List (ℕ × ℕ)) → Within n pairs → (x l r : ℕ) (t u : Term) → Is l t → Is r u → PairAt c.rows pairs x t u
      → paired_by (numbered ns pairs) x l r ≡ true
  unfolding paired_by
  pair-paired pairs w x l r t u p q d =
      and_both (counts (length (numbered ns pairs)) x) _ (pair-counted pairs x t u d)
      (and_both (eqb (left_at (numbered ns pairs) (x - 1)) l) (eqb (right_at (numbered ns pairs) (x - 1)) r)
      (eq-eqb (left_at (numbered ns pairs) (x - 1)) l (is_same (pair_left pairs w x t u d) p))
      (eq-eqb (right_at (numbered ns pairs) (x - 1)) r (is_same (pair-right pairs w x t u d) q)))
