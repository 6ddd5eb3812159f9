-- The keys of rows, written and sorted.
--     key_one, key_in, in-key     a row has one key, no other row has it, and each key is that of a row
--     Filling                     the keys of the first rows are written
--     indexed-one                 the keys of rows are fixed
--     mine                        what the functions that write and sort keys leave to show
-- Assumes nothing.
use mathlib.Core.List.{List, [], ◌∷◌}
use mathlib.Core.Logic.{inl, inr, ⊎_elim}
use mathlib.Core.Path.{◌≡◌, refl, sym, ap, ap₂, ◌∙◌, subst}
use Prim.Native.Nat.{ℕ, zero, suc, ◌+◌, ◌≤◌, ◌<◌}
use native.Mathlib.Omega.{arith}
use native.Mathlib.Numerals.{add-one}
use borrow.Author.Rules.{rules}
use lib.ListN.{length, get_or, set, take, length-set, length-take}
use lib.Seq.{take-suc-set, take_all}
use Rattle.meaning.specs.Members.{In}
use Rattle.meaning.proofs.Sorted.{in-at, in_place}
use Rattle.runs.specs.Runs.{each, row_count}
use Rattle.runs.proofs.Saying.{each-length, each_at_lem}
use Rattle.sorting.specs.Sorting.{Rising, Sorts, SortedIn}
use Rattle.search_values.specs.Index.{key_base, row_key, row_keys, IndexFit, Indexed}

-- two rows with one key are one row
pub key_one : (rows : List ℕ) (i j : ℕ) → i < key_base → j < key_base → row_key rows i ≡ row_key rows j → i ≡ j
key_one rows i j h l e = omega arith

pub key_in : (rows : List ℕ) (i : ℕ) → i < row_count rows → In (row_key rows i) (row_keys rows)
unfolding row_keys
key_in rows i h =
    subst (λ (x : ℕ). In x (row_keys rows)) (each_at_lem (row_key rows) (row_count rows) i 0 h)
    (in-at (row_keys rows) i 0 (omega (arith, each-length (row_key rows) (row_count rows))))

pub in-key : (rows : List ℕ) (x : ℕ) → In x (row_keys rows) → (i : ℕ) × (i < row_count rows) × (x ≡ row_key rows i)
unfolding row_keys
in-key rows x m =
    let p : (k : ℕ) × (k < length (row_keys rows)) × (get_or (row_keys rows) k 0 ≡ x) = in_place x (row_keys rows) 0 m in
    let h : p.0 < row_count rows = omega (arith, p.1, each-length (row_key rows) (row_count rows)) in
    (p.0, h, sym p.2 ∙ each_at_lem (row_key rows) (row_count rows) p.0 0 h)

keys-long : (rows : List ℕ) → length (row_keys rows) ≡ row_count rows
unfolding row_keys
keys-long rows = each-length (row_key rows) (row_count rows)

-- ---- as many keys as rows

-- a list without one of its members
record Rest (x : ℕ) (l : List ℕ) : Type 0 where
  left : List ℕ
  less : length l ≡ suc (length left)
  keeps : (y : ℕ) → In y l → (y ≡ x → ⊥) → In y left

rest : (x : ℕ) (l : List ℕ) → In x l → Rest x l
rest x [] m = absurd m
rest x (y ∷ l) (inl e) = record { left = l; less = refl; keeps = λ z i n. ⊎_elim (λ f. absurd (n (f ∙ sym e))) (λ j. j) i }
rest x (y ∷ l) (inr m) = more (rest x l m)
  where
    more : Rest x l → Rest x (y ∷ l)
    more r = record { left = y ∷ r.left; less = ap suc r.less; keeps = λ z i n. ⊎_elim (λ f. inl f) (λ j. inr (r.keeps z j n)) i }

-- a list that holds n numbers has at least n places
holds-long : (g : ℕ → ℕ) (n : ℕ) (l : List ℕ) → ((i j : ℕ) → i < n → j < n → g i ≡ g j → i ≡ j) → ((i : ℕ) → i < n → In (g i) l) → n ≤ length l
holds-long g zero l one h = omega arith
holds-long g (suc n) l one h = go (rest (g n) l (h n (omega arith))) (λ m. holds-long g n m (λ i j a b. one i j (omega arith) (omega arith)))
  where
    go : Rest (g n) l → ((m : List ℕ) → ((i : ℕ) → i < n → In (g i) m) → n ≤ length m) → suc n ≤ length l
    go r fewer =
        omega (arith, r.less, fewer r.left (λ i a. r.keeps (g i) (h i (omega arith)) (λ e. omega (arith, one i n (omega arith) (omega arith) e))))

-- ---- the keys are written

pub record Filling (rows : List ℕ) (n : ℕ) (keys : List ℕ) (i : ℕ) : Type 0 where
  pub few : row_count rows ≤ key_base
  pub count : n ≡ row_count rows
  pub long : length keys ≡ n
  pub within : i ≤ n
  pub front : take i keys ≡ each (row_key rows) i

pub filling-start : (rows keys : List ℕ) (n : ℕ) → row_count rows ≤ key_base → length keys ≡ row_count rows → n ≡ length keys → Filling rows n keys 0
unfolding each
filling-start rows keys n h e f = record { few = h; count = f ∙ e; long = sym f; within = omega arith; front = refl }

module _ {rows : List ℕ} {n : ℕ} {keys : List ℕ} {i : ℕ} (f : Filling rows n keys i) where
  pub filling-inside : i < n → i < row_count rows
  filling-inside h = omega (arith, f.count)

  pub filling-low : i < n → i < key_base
  filling-low h = omega (arith, f.count, f.few)

  pub filling-room : i < n → i < length keys
  filling-room h = omega (arith, f.long)

  pub filling_step : (x : ℕ) → i < n → x ≡ row_key rows i → Filling rows n (set keys i x) (i + 1)
  unfolding each
  filling_step x h e =
      record {
        few = f.few;
        count = f.count;
        long = length-set keys i x ∙ f.long;
        within = omega arith;
        front = rw (add-one i) (take-suc-set keys i x (filling-room h) ∙ rw (f.front, e));
      }

  pub filling-done : n ≤ i → keys ≡ row_keys rows
  unfolding row_keys
  filling-done h =
      let e : i ≡ row_count rows = omega (arith, f.count, f.within) in
      sym (take_all i keys (omega (arith, f.long))) ∙ f.front ∙ ap (each (row_key rows)) e

-- ---- and sorted

pub index-done : (rows given after : List ℕ) (n places spare : ℕ) → IndexFit rows places spare → given ≡ row_keys rows → SortedIn given after n → length after ≡ length given
    → Indexed rows after
index-done rows given after n places spare h e s l = record { few = h.few; sorts = subst (Sorts (row_keys rows)) whole sorted }
  where
    sorted : Sorts (row_keys rows) (take n after)
    sorted = rw e at s.sorts

    all : row_count rows ≤ length (take n after)
    all =
        holds-long (row_key rows) (row_count rows) (take n after)
        (λ i j a b. key_one rows i j (omega (arith, h.few)) (omega (arith, h.few)))
        (λ i a. (sorted.same (row_key rows i)).1 (key_in rows i a))

    size : length given ≡ row_count rows
    size = ap length e ∙ keys-long rows

    whole : take n after ≡ after
    whole = take_all n after (omega (arith, all, length-take n after, size, l))

-- ---- the keys are fixed

-- rising lists with the same members are one list
rising-one : (l m : List ℕ) → Rising l → Rising m → ((x : ℕ) → In x l → In x m) → ((x : ℕ) → In x m → In x l) → l ≡ m
rising-one [] [] r s to of = refl
rising-one [] (y ∷ m) r s to of = absurd (of y (inl refl))
rising-one (x ∷ l) [] r s to of = absurd (to x (inl refl))
rising-one (x ∷ l) (y ∷ m) r s to of =
    ap₂ ◌∷◌ same
    (rising-one l m r.1 s.1 (λ z i. behind z (r.0 z i) (to z (inr i)))
    (λ z i. ⊎_elim (λ e. absurd (omega (arith, s.0 z i, same))) (λ j. j) (of z (inr i))))
  where
    same : x ≡ y
    same = ⊎_elim (λ e. e) (λ i. ⊎_elim (λ e. sym e) (λ j. absurd (omega (arith, s.0 x i, r.0 y j))) (of y (inl refl))) (to x (inl refl))

    behind : (z : ℕ) → x < z → In z (y ∷ m) → In z m
    behind z h i = ⊎_elim (λ e. absurd (omega (arith, same))) (λ j. j) i

pub indexed-one : (rows keys others : List ℕ) → Indexed rows keys → Indexed rows others → keys ≡ others
indexed-one rows keys others a b =
    rising-one keys others a.sorts.rising b.sorts.rising (λ x i. (b.sorts.same x).1 ((a.sorts.same x).0 i))
    (λ x i. (a.sorts.same x).1 ((b.sorts.same x).0 i))

pub ruleset mine = (rules, filling-start, filling-inside, filling-low, filling-room, filling_step, filling-done, index-done)
