-- A run in which one set and its flags are other than they were, and what it allows.
--     changed-region, changed-told, changed-narrowed   by words written; by flags written; by both
--     changed_then                   one after the other
--     set-fits, sets-apart           where a set stands; two sets
--     possible-wider                 a run that says more is possible allows as much
--     row-anew, row_number, row-none    a row's words written anew; the number of a row that is known, which has something left
--     put-allows, sift-allows        it allows what a row put anew, or a variable's candidates cut, allows
-- Assumes nothing.
use mathlib.Core.Bool.{Bool, true, false, not, ◌&&◌, ◌||◌}
use mathlib.Core.List.{List}
use mathlib.Core.Path.{◌≡◌, refl, ap, ap₂, sym, ◌∙◌}
use mathlib.Core.Logic.{◌⊎◌, inl, inr}
use Prim.Native.Nat.{ℕ, suc, ◌+◌, ◌*◌, ◌/◌, ◌%◌, ◌≤◌, ◌<◌}
use native.Mathlib.Nat.{mul-le-mul_right, suc-mul, add-mul}
use native.Mathlib.Omega.{arith}
use lib.Dec.{eqb, ltb}
use borrow.Author.Tests.{eqb-true, eqb-false, ne_eqb, ltb-true, ltb-false}
use lib.ListN.{length, get_or, drop}
use lib.Seq.{get_or-drop}
use Rattle.meaning.specs.Values.{number_at, numbers}
use Rattle.meaning.proofs.Logic.{and-true-left, and-true-right, or_right, false-true}
use Rattle.meaning.proofs.Pruned.{Sought}
use Rattle.bits.specs.Sets.{bit_at, has}
use Rattle.runs.specs.Limits.{most_variables}
use Rattle.matching.specs.Possible.{Possible, set_at, put, sift}
use Rattle.matching.specs.InWords.{possible_of}
use Rattle.matching.specs.Sound.{In, AllowsBy}
use Rattle.matching.proofs.Sets.{set_same, set_other}
use Rattle.matching.proofs.Allows.{allows-put, allows-wider}
use Rattle.matching.proofs.Pruning.{told}
use Rattle.search_sets.specs.Places.{known_at, outside_at, possible_in}
use Rattle.search_sets.specs.Keeps.{Setting, Fits}
use Rattle.search_sets.specs.Words.{Changed, Told, Narrowed}

-- ---- where sets stand

pub sets-apart : (width q r : ℕ) → q < r → q * width + width ≤ r * width
sets-apart width q r h = let m : suc q * width ≤ r * width = mul-le-mul_right width h in omega (arith, suc-mul q width)

-- a word of another set
pub sides_apart : (width p q : ℕ) → eqb q p ≡ false → (j : ℕ) → j < width → (q * width + j < p * width) ⊎ (p * width + width ≤ q * width + j)
sides_apart width p q e j m = side (ltb q p) refl
  where
    side : (b : Bool) → ltb q p ≡ b → (q * width + j < p * width) ⊎ (p * width + width ≤ q * width + j)
    side true z = inl (omega (arith, sets-apart width q p (ltb-true q p z)))
    side false z =
        let k : p < q = omega (arith, ltb-false q p z, eqb-false q p e) in
        inr (omega (arith, sets-apart width p q k))

pub changed_then : (count width : ℕ) (old mid new : List ℕ) (p : ℕ) → Changed count width old mid p → Changed count width mid new p → Changed count width old new p
changed_then count width old mid new p f g =
    record {
      long = g.long ∙ f.long;
      words = λ q h e j l. g.words q h e j l ∙ f.words q h e j l;
      known = λ q e. g.known q e ∙ f.known q e;
      outside = λ q e. g.outside q e ∙ f.outside q e;
    }

pub changed-region : (count width : ℕ) (old new : List ℕ) (p : ℕ) → p < count + most_variables → length new ≡ length old
    → ((j : ℕ) → (j < p * width) ⊎ (p * width + width ≤ j) → get_or new j 0 ≡ get_or old j 0) → Changed count width old new p
changed-region count width old new p h l f =
    record {
      long = l;
      words = λ q k e j m. f (q * width + j) (sides_apart width p q e j m);
      known = λ q e. ap (λ (w : ℕ). bit_at w q) (f (known_at count width) (inr (sets-apart width p (count + most_variables) h)));
      outside = λ q e. ap (λ (w : ℕ). bit_at w q) (f (outside_at count width) (inr (omega (arith, sets-apart width p (count + most_variables) h))));
    }

pub changed-told : (count width : ℕ) (old new : List ℕ) (p : ℕ) (out : Bool) → Told old new (known_at count width) p out → Changed count width old new p
changed-told count width old new p out t =
    record {
      long = t.long;
      words = λ q h e j m. t.others (q * width + j) (omega (arith, sets-apart width q (count + most_variables) h));
      known = λ q e. t.known.others q e;
      outside = λ q e. t.outside.others q e;
    }

pub changed-narrowed : (count width : ℕ) (old new : List ℕ) (p b : ℕ) (out : Bool) → p < count → Narrowed old new (known_at count width) (p * width) b width p out
    → Changed count width old new p
changed-narrowed count width old new p b out h t =
    record {
      long = t.long;
      words = λ q l e j m. t.others (q * width + j) (omega (arith, sets-apart width q (count + most_variables) l)) (sides_apart width p q e j m);
      known = λ q e. t.known.others q e;
      outside = λ q e. t.outside.others q e;
    }

-- ---- what a set holds

pub has_same : (width : ℕ) (old new : List ℕ) (q r : ℕ) → ((j : ℕ) → j < width → get_or new (q + j) 0 ≡ get_or old (r + j) 0) → (x : ℕ) → x < width * 64 → has new q x ≡ has old r x
unfolding has
has_same width old new q r f x h = ap (λ (w : ℕ). bit_at w (x % 64)) (f (x / 64) (omega arith))

pub has-drop : (count width : ℕ) (sets : List ℕ) (v x : ℕ) → has (drop ((count + 0) * width) sets) (v * width) x ≡ has sets ((count + v) * width) x
unfolding has
has-drop count width sets v x =
    let z : (count + 0) * width + (v * width + x / 64) ≡ (count + v) * width + x / 64 = omega (arith, add-mul count 0 width, add-mul count v width) in
    ap (λ (w : ℕ). bit_at w (x % 64)) (get_or-drop ((count + 0) * width) sets (v * width + x / 64) 0 ∙ ap (λ (i : ℕ). get_or sets i 0) z)

-- ---- what a run allows

module _ (s : Setting) (count width : ℕ) (h : Fits count width s) (a : List ℕ) (m : Sought s.differs s.rows s.rep s.offset s.rule a) where
  abbrev pub Allowed : Possible → Type 0
  Allowed P = AllowsBy s.differs s.rows s.rep s.bound s.offset s.rule P a

  pub possible-wider : (P Q : Possible) → (P.alive ≡ true → Q.alive ≡ true)
      → ((p x : ℕ) → p < count → x < s.bound → P.classes p x ≡ true → Q.classes p x ≡ true)
      → ((p : ℕ) → p < count → P.outside p ≡ true → Q.outside p ≡ true)
      → ((v x : ℕ) → v < most_variables → x < s.bound → P.candidates v x ≡ true → Q.candidates v x ≡ true)
      → Allowed P → Allowed Q
  possible-wider P Q alive classes outside candidates w =
      allows-wider s.bound s.offset (length s.rule.patterns) a (numbers s.rows s.rep s.offset s.rule.patterns a) P Q alive
      (λ p x l k. classes p x (omega (arith, h.counted)) k)
      (λ p l. outside p (omega (arith, h.counted)))
      (told s.differs s.rows s.rep s.bound s.offset s.rule h.table h.placed a m).small
      (λ v x l k. candidates v x (omega (arith, h.few, m.0)) k)
      w

  pub put-allows : (p : ℕ) (set : ℕ → Bool) (out : Bool) (old new : List ℕ) → p < count → Changed count width old new p
      → ((x : ℕ) → x < s.bound → set x ≡ true → has new (p * width) x ≡ true) → (out ≡ true → bit_at (get_or new (outside_at count width) 0) p ≡ true)
      → Allowed (put p set out (possible_in count width old)) → Allowed (possible_in count width new)
  unfolding possible_in possible_of put
  put-allows p set out old new l c row flag w =
      possible-wider (put p set out P) (possible_in count width new) (λ e. e) (λ r x k b. class r x k b (eqb r p) refl) (λ r k. free r (eqb r p) refl)
      (λ v x k b e. sym (member v x k b) ∙ e)
      w
    where
      P : Possible
      P = possible_in count width old

      known : ℕ → Bool
      known r = bit_at (get_or new (known_at count width) 0) r

      member : (v x : ℕ) → v < most_variables → x < s.bound → has (drop ((count + 0) * width) old) (v * width) x ≡ has (drop ((count + 0) * width) new) (v * width) x
      member v x k b =
          has-drop count width old v x
          ∙ sym (has_same width old new ((count + v) * width) ((count + v) * width) (c.words (count + v) (omega arith) (ne_eqb (count + v) p (λ z. omega arith))) x (omega (arith, h.within)))
          ∙ sym (has-drop count width new v x)

      class : (r x : ℕ) → r < count → x < s.bound → (b : Bool) → eqb r p ≡ b → set_at p set P.classes r x ≡ true → (not (known r) || has new (r * width) x) ≡ true
      class r x k b true e t =
          let z : r ≡ p = eqb-true r p e in
          let y : set x ≡ true = sym (ap (λ (f : ℕ → Bool). f x) (set_same p set P.classes r e)) ∙ t in
          or_right (not (known r)) (has new (r * width) x) (rw z (row x b y))
      class r x k b false e t =
          ap₂ (λ (i j : Bool). not i || j) (c.known r e) (has_same width old new (r * width) (r * width) (c.words r (omega arith) e) x (omega (arith, h.within)))
          ∙ sym (ap (λ (f : ℕ → Bool). f x) (set_other p set P.classes r e))
          ∙ t

      free : (r : ℕ) → (b : Bool) → eqb r p ≡ b → set_at p out P.outside r ≡ true → (not (known r) || bit_at (get_or new (outside_at count width) 0) r) ≡ true
      free r true e t =
          let z : r ≡ p = eqb-true r p e in
          or_right (not (known r)) (bit_at (get_or new (outside_at count width) 0) r) (rw z (flag (sym (set_same p out P.outside r e) ∙ t)))
      free r false e t = ap₂ (λ (i j : Bool). not i || j) (c.known r e) (c.outside r e) ∙ sym (set_other p out P.outside r e) ∙ t

  abbrev pub num : ℕ → ℕ
  num p = number_at (numbers s.rows s.rep s.offset s.rule.patterns a) p

  -- row p anew, where its number is in the new set
  pub row-anew : (p : ℕ) (set : ℕ → Bool) (out : Bool) (old new : List ℕ) → p < count → Changed count width old new p
      → ((x : ℕ) → x < s.bound → set x ≡ true → has new (p * width) x ≡ true) → (out ≡ true → bit_at (get_or new (outside_at count width) 0) p ≡ true)
      → In s.bound s.offset set out (num p) → Allowed (possible_in count width old) → Allowed (possible_in count width new)
  row-anew p set out old new l c row flag i w =
      put-allows p set out old new l c row flag
      (allows-put s.bound s.offset (length s.rule.patterns) a (numbers s.rows s.rep s.offset s.rule.patterns a) p set out (possible_in count width old) (λ _. i) w)

  -- the number of a row that is known
  pub row_number : (p : ℕ) (sets : List ℕ) → p < count → bit_at (get_or sets (known_at count width) 0) p ≡ true → Allowed (possible_in count width sets)
      → In s.bound s.offset (has sets (p * width)) (bit_at (get_or sets (outside_at count width) 0) p) (num p)
  unfolding possible_in possible_of
  row_number p sets l k w = go (w.rows p (omega (arith, h.counted)))
    where
      go : In s.bound s.offset ((possible_in count width sets).classes p) ((possible_in count width sets).outside p) (num p)
          → In s.bound s.offset (has sets (p * width)) (bit_at (get_or sets (outside_at count width) 0) p) (num p)
      go (inl u) = inl (u.0, sym (rw k refl) ∙ u.1)
      go (inr u) = inr (u.0, sym (rw k refl) ∙ u.1)

  -- such a row has something left
  pub row-none : (p : ℕ) (sets : List ℕ) → p < count → bit_at (get_or sets (known_at count width) 0) p ≡ true → bit_at (get_or sets (outside_at count width) 0) p ≡ false
      → ((x : ℕ) → x < width * 64 → has sets (p * width) x ≡ false) → Allowed (possible_in count width sets) → ⊥
  row-none p sets l k o f w = go (row_number p sets l k w)
    where
      go : In s.bound s.offset (has sets (p * width)) (bit_at (get_or sets (outside_at count width) 0) p) (num p) → ⊥
      go (inl u) = false-true u.1 (f (num p) (omega (arith, u.0, h.within)))
      go (inr u) = false-true u.1 o

  pub sift-allows : (v : ℕ) (set : ℕ → Bool) (old new : List ℕ) → v < most_variables → Changed count width old new (count + v)
      → ((x : ℕ) → x < s.bound → has old ((count + v) * width) x ≡ true → set x ≡ true → has new ((count + v) * width) x ≡ true)
      → Allowed (sift v set (possible_in count width old)) → Allowed (possible_in count width new)
  unfolding possible_in possible_of sift
  sift-allows v set old new l c row w =
      possible-wider (sift v set P) (possible_in count width new) (λ e. e) (λ r x k b e. sym (class r x k b) ∙ e) (λ r k e. sym (free r k) ∙ e)
      (λ u x k b. each u x k b (eqb u v) refl)
      w
    where
      P : Possible
      P = possible_in count width old

      other : (r : ℕ) → r < count → eqb r (count + v) ≡ false
      other r k = ne_eqb r (count + v) (λ z. omega arith)

      class : (r x : ℕ) → r < count → x < s.bound → P.classes r x ≡ (possible_in count width new).classes r x
      class r x k b =
          ap₂ (λ (i j : Bool). not i || j) (sym (c.known r (other r k)))
          (sym (has_same width old new (r * width) (r * width) (c.words r (omega arith) (other r k)) x (omega (arith, h.within))))

      free : (r : ℕ) → r < count → P.outside r ≡ (possible_in count width new).outside r
      free r k = ap₂ (λ (i j : Bool). not i || j) (sym (c.known r (other r k))) (sym (c.outside r (other r k)))

      before : ℕ → ℕ → Bool
      before u x = has (drop ((count + 0) * width) old) (u * width) x

      kept : ℕ → Bool
      kept x = before v x && set x

      each : (u x : ℕ) → u < most_variables → x < s.bound → (b : Bool) → eqb u v ≡ b → set_at v kept P.candidates u x ≡ true
          → has (drop ((count + 0) * width) new) (u * width) x ≡ true
      each u x k b true e t =
          let z : u ≡ v = eqb-true u v e in
          let y : (before v x && set x) ≡ true = sym (ap (λ (f : ℕ → Bool). f x) (set_same v kept P.candidates u e)) ∙ t in
          has-drop count width new u x
          ∙ rw z (row x b (sym (has-drop count width old v x) ∙ and-true-left (before v x) (set x) y) (and-true-right (before v x) (set x) y))
      each u x k b false e t =
          has-drop count width new u x
          ∙ has_same width old new ((count + u) * width) ((count + u) * width)
          (c.words (count + u) (omega arith) (ne_eqb (count + u) (count + v) (λ z. eqb-false u v e (omega arith))))
          x
          (omega (arith, h.within))
          ∙ sym (has-drop count width old u x)
          ∙ sym (ap (λ (f : ℕ → Bool). f x) (set_other v kept P.candidates u e))
          ∙ t
