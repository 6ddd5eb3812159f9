-- The loops over a table of representatives: own numbers, one class moved, the sum; and the merge of two classes.
--     mine     what `at_row`, `own`, `moved`, `move_class`, `unite` and `sum` leave to show
-- Assumes nothing.
use mathlib.Core.Bool.{Bool, true, false}
use mathlib.Core.List.{List, [], ◌∷◌, ◌++◌, map, append_assoc, append-nil, map-append}
use mathlib.Core.Path.{◌≡◌, refl, ap, sym, ◌∙◌}
use Prim.Native.Nat.{ℕ, suc, ◌+◌, ◌*◌, ◌≤◌, ◌<◌}
use native.Mathlib.Numerals.{add-one}
use native.Mathlib.Omega.{arith}
use lib.Dec.{eqb}
use lib.ListN.{length, get_or, set, take, drop, replicate, length-set, length-map, get_or-eq_default}
use lib.Seq.{drop-cons, set_at, take-suc, take-length, drop-length, length-take-le, get_or_at, ext_get_or, get_or-set_same, get_or-set_other}
use borrow.Author.Rules.{rules}
use borrow.Author.Tests.{eqb-true, eqb-false, eq-eqb, ne_eqb, lt-ltb, le-ltb}
use Rattle.meaning.specs.Equality.{rep_at}
use Rattle.meaning.specs.Closing.{move, total, unite, count}
use Rattle.meaning.proofs.Closes.{move-none, length-count, rep_at-count}

pub past_end : (l : List ℕ) (i : ℕ) → length l ≤ i → 0 ≡ get_or l i 0
past_end l i h = sym (get_or-eq_default l 0 h)

-- ---- own numbers: the first i places are filled
pub record Filling (t : List ℕ) (i : ℕ) : Type 0 where
  pub own : (k : ℕ) → k < i → get_or t k 0 ≡ k
  pub reach : i ≤ 255
  pub long : length t ≡ 255

pub filling-start : Filling (replicate 255 0) 0
filling-start = record { own = λ k h. absurd (omega arith); reach = omega arith; long = refl }

pub filling-next : {t : List ℕ} {i : ℕ} → Filling t i → i < 255 → Filling (set t i i) (i + 1)
filling-next {t} {i} f h = record { own = λ k k<. go k k< (eqb k i) refl; reach = omega arith; long = length-set t i i ∙ f.long }
  where
    go : (k : ℕ) → k < i + 1 → (b : Bool) → eqb k i ≡ b → get_or (set t i i) k 0 ≡ k
    go k k< true e = rw (eqb-true k i e) (get_or-set_same t i i 0 (omega (arith, f.long)))
    go k k< false e = get_or-set_other t i k i 0 (eqb-false k i e) ∙ f.own k (omega (arith, eqb-false k i e))

pub filling-done : {t : List ℕ} {i : ℕ} → Filling t i → 255 ≤ i → t ≡ count 255 0
filling-done {t} {i} f h =
    ext_get_or 0 t (count 255 0) (f.long ∙ sym (length-count 255 0))
    (λ k k<. f.own k (omega (arith, f.long, f.reach)) ∙ sym (rep_at-count 255 0 k (omega (arith, f.long)) ∙ omega arith))

-- ---- one class moved
pub moved-hit : (lo hi x : ℕ) → x ≡ hi → lo ≡ move lo hi x
unfolding move
moved-hit lo hi x e = rw (eq-eqb x hi e, move)

pub moved-miss : (lo hi x : ℕ) → (x ≡ hi → ⊥) → x ≡ move lo hi x
unfolding move
moved-miss lo hi x e = rw (ne_eqb x hi e, move)

-- the first r places are moved
pub record Moving (lo hi n : ℕ) (l t : List ℕ) (r : ℕ) : Type 0 where
  pub so : t ≡ map (move lo hi) (take r l) ++ drop r l
  pub reach : r ≤ n
  pub room : n ≡ 255
  pub long : length l ≡ 255

pub moving-start : (lo hi n : ℕ) (l : List ℕ) → n ≡ 255 → length l ≡ 255 → Moving lo hi n l l 0
moving-start lo hi n l e h = record { so = refl; reach = omega arith; room = e; long = h }

pub moving-next : {lo hi n : ℕ} {l t : List ℕ} {r x : ℕ} → Moving lo hi n l t r → r < n → x ≡ move lo hi (get_or t r 0) → Moving lo hi n l (set t r x) (r + 1)
moving-next {lo} {hi} {n} {l} {t} {r} {x} m h e = record { so = put; reach = omega arith; room = m.room; long = m.long }
  where
    f : ℕ → ℕ
    f = move lo hi

    inside : r < length l
    inside = omega (arith, m.long, m.room)

    head : length (map f (take r l)) ≡ r
    head = length-map (take r l) f ∙ length-take-le r l (omega arith)

    old : get_or t r 0 ≡ get_or l r 0
    old = ap (λ (y : List ℕ). get_or y r 0) m.so ∙ rw (drop-cons l r 0 inside) (get_or_at (map f (take r l)) (get_or l r 0) (drop (suc r) l) 0 r head)

    put : set t r x ≡ map f (take (r + 1) l) ++ drop (r + 1) l
    put =
        ap (λ (y : List ℕ). set y r x) m.so
        ∙ rw (drop-cons l r 0 inside, set_at (map f (take r l)) (get_or l r 0) (drop (suc r) l) x r head, e, old, add-one, take-suc l r 0 inside, map-append)
        (sym (append_assoc (map f (take r l)) (f (get_or l r 0) ∷ []) (drop (suc r) l)))

pub moving-done : {lo hi n : ℕ} {l t : List ℕ} {r : ℕ} → Moving lo hi n l t r → n ≤ r → t ≡ map (move lo hi) l
moving-done {lo} {hi} {n} {l} {t} {r} m h =
    let e : r ≡ length l = omega (arith, m.long, m.reach, m.room) in
    m.so ∙ ap (λ (k : ℕ). map (move lo hi) (take k l) ++ drop k l) e ∙ rw (take-length, drop-length) (append-nil (map (move lo hi) l))

-- ---- two classes merged
pub unite-below : (i j a b : ℕ) (l m : List ℕ) → a ≡ rep_at l i → b ≡ rep_at l j → a < b → m ≡ map (move a b) l → m ≡ unite i j l
unfolding unite
unite-below i j a b l m ea eb h e =
    let k : rep_at l i < rep_at l j = omega arith in
    e ∙ rw (lt-ltb (rep_at l i) (rep_at l j) k, unite) (rw (ea, eb))

pub unite-above : (i j a b : ℕ) (l m : List ℕ) → a ≡ rep_at l i → b ≡ rep_at l j → b ≤ a → m ≡ map (move b a) l → m ≡ unite i j l
unfolding unite
unite-above i j a b l m ea eb h e =
    let k : rep_at l j ≤ rep_at l i = omega arith in
    e ∙ rw (le-ltb (rep_at l i) (rep_at l j) k, unite) (rw (ea, eb))

pub unite-same : (i j a b : ℕ) (l : List ℕ) → a ≡ rep_at l i → b ≡ rep_at l j → b ≤ a → a ≤ b → l ≡ unite i j l
unite-same i j a b l ea eb h k =
    let e : a ≡ b = omega arith in
    unite-above i j a b l l ea eb h (sym (ap (λ (x : ℕ). map (move b x) l) e ∙ move-none b l))

-- ---- the sum of the first r representatives
pub record Summing (n : ℕ) (t : List ℕ) (s r : ℕ) : Type 0 where
  pub so : s ≡ total r (rep_at t)
  pub small : s ≤ 65535 * r
  pub reach : r ≤ n
  pub room : n ≤ 255

pub summing_start : (n : ℕ) (t : List ℕ) → n ≤ 255 → Summing n t 0 0
unfolding total
summing_start n t h = record { so = refl; small = omega arith; reach = omega arith; room = h }

pub summing-next : {n : ℕ} {t : List ℕ} {s r x : ℕ} → Summing n t s r → r < n → x ≡ get_or t r 0 → x < 65536 → Summing n t (s + x) (r + 1)
unfolding total
summing-next {n} {t} {s} {r} {x} m h e b =
    record { so = rw add-one (omega (arith, m.so)); small = omega (arith, m.small); reach = omega arith; room = m.room }

pub summing-done : {n : ℕ} {t : List ℕ} {s r : ℕ} → Summing n t s r → n ≤ r → s ≡ total n (rep_at t)
summing-done {n} {t} {s} {r} m h = let e : r ≡ n = omega (arith, m.reach) in m.so ∙ ap (λ (k : ℕ). total k (rep_at t)) e

pub ruleset mine = (
  rules,
  past_end,
  filling-start,
  filling-next,
  filling-done,
  moved-hit,
  moved-miss,
  moving-start,
  moving-next,
  moving-done,
  unite-below,
  unite-above,
  unite-same,
  summing_start,
  summing-next,
  summing-done,
)
