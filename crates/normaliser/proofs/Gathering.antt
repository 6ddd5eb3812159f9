-- The keys of the differences that statements say, gathered and sorted.
--     keys-more       the keys of one statement more
--     Gathering       the keys of some statements stand at the front of a space
--     mine            what the functions that gather leave to show
-- Assumes nothing.
use mathlib.Core.Bool.{Bool, true, false}
use mathlib.Core.List.{List, [], ◌∷◌, ◌++◌, map, map-append, append-nil}
use mathlib.Core.Path.{◌≡◌, refl, sym, ap, ◌∙◌}
use Prim.Native.Nat.{ℕ, ◌+◌, ◌*◌, ◌≤◌, ◌<◌, min, max}
use native.Mathlib.Numerals.{add-one}
use native.Mathlib.Omega.{arith}
use borrow.Author.Rules.{rules}
use lib.Dec.{eqb}
use lib.ListN.{length, set, take, drop}
use lib.Seq.{take-suc-set, take-append-le, length-take-le}
use Rattle.meaning.specs.Context.{Statement, differences_of}
use Rattle.meaning.specs.Equality.{rep_at}
use Rattle.meaning.specs.Columns.{statement_of}
use Rattle.meaning.specs.Writing.{lower_first}
use Rattle.meaning.proofs.Taken.{differences-append}
use Rattle.runs.specs.Runs.{each, said_count, kind_in, left_in, right_in, statement_in}
use Rattle.runs.specs.Fit.{NamedAt}
use Rattle.sorting.specs.Sorting.{SortedIn}
use Rattle.normaliser.specs.Keyed.{key_base, pair_key, keys_to, stated_key, note_of, Keyable, Noted, Gathered, KeysIn}

module _ (said table : List ℕ) where
  keys : List Statement → List ℕ
  keys l = map pair_key (map (lower_first (rep_at table)) (differences_of l))

  key-noted : (k : ℕ) → keys (statement_in said k ∷ []) ≡ note_of (eqb (kind_in said k) 2) (stated_key said table k)
  unfolding keys differences_of statement_of note_of
  key-noted k = go (eqb (kind_in said k) 2) refl
    where
      go : (b : Bool) → eqb (kind_in said k) 2 ≡ b → keys (statement_in said k ∷ []) ≡ note_of (eqb (kind_in said k) 2) (stated_key said table k)
      go true e = rw (statement_of, note_of, e)
      go false e = rw (statement_of, note_of, e)

  pub keys-more : (k : ℕ) → keys_to said table (k + 1) ≡ keys_to said table k ++ note_of (eqb (kind_in said k) 2) (stated_key said table k)
  unfolding keys keys_to each
  keys-more k =
      ap (keys_to said table) (add-one k)
      ∙ ap (λ (l : List (ℕ × ℕ)). map pair_key (map (lower_first (rep_at table)) l)) (differences-append (each (statement_in said) k) last)
      ∙ ap (map pair_key) (map-append (lower_first (rep_at table)) (differences_of (each (statement_in said) k)) (differences_of last))
      ∙ map-append pair_key (map (lower_first (rep_at table)) (differences_of (each (statement_in said) k))) (map (lower_first (rep_at table)) (differences_of last))
      ∙ ap (λ (l : List ℕ). keys_to said table k ++ l) (key-noted k)
    where
      last : List Statement
      last = statement_in said k ∷ []

-- ---- the leaves

module _ {said : List ℕ} (table : List ℕ) {k : ℕ} (h : NamedAt said (length table) k) where
  pub left_there : {x : ℕ} → x ≡ left_in said k → x < length table
  left_there e = omega (arith, h.left)

  pub right_there : {x : ℕ} → x ≡ right_in said k → x < length table
  right_there e = omega (arith, h.right)

pub key-lower : (p q x y : ℕ) → p < q → x ≡ p → y ≡ q → x * key_base + y ≡ pair_key (min p q, max p q)
key-lower p q x y h e f = omega arith

pub key-upper : (p q x y : ℕ) → q ≤ p → x ≡ q → y ≡ p → x * key_base + y ≡ pair_key (min p q, max p q)
key-upper p q x y h e f = omega arith

pub key-stated : (said table : List ℕ) (k p q x y r : ℕ) → p ≡ left_in said k → q ≡ right_in said k → x ≡ rep_at table p → y ≡ rep_at table q
    → r ≡ pair_key (min x y, max x y) → r ≡ stated_key said table k
key-stated said table k p q x y r e f g h d = rw (g, h, e, f) at d

pub noted-none : (given : List ℕ) (n : ℕ) (equation : Bool) (key : ℕ) → equation ≡ true → Noted given n equation key given n
unfolding note_of
noted-none given n equation key e = record { made = rw (note_of, e) (sym (append-nil (take n given))); small = omega arith }

pub noted_one : (given : List ℕ) (n : ℕ) (equation : Bool) (key : ℕ) → n < length given → equation ≡ false
    → Noted given n equation key (set given n key) (n + 1)
unfolding note_of
noted_one given n equation key h e =
    record { made = rw (note_of, e, add-one n) (take-suc-set given n key h); small = omega arith }

-- ---- the loop

pub record Gathering (said table : List ℕ) (size m : ℕ) (places : List ℕ) (n k : ℕ) : Type 0 where
  pub made : take n places ≡ keys_to said table k
  pub small : n ≤ k
  pub within : k ≤ m
  pub all : m ≡ said_count said
  pub long : length places ≡ size

pub gathering-start : (said table places : List ℕ) (m : ℕ) → m ≡ said_count said → Gathering said table (length places) m places 0 0
unfolding keys_to each differences_of
gathering-start said table places m e = record { made = refl; small = omega arith; within = omega arith; all = e; long = refl }

module _ {said table places : List ℕ} {size m n k : ℕ} (g : Gathering said table size m places n k) where
  pub gathering-said : k < m → k < said_count said
  gathering-said h = omega (arith, g.all)

  pub gathering-named : Keyable said table size → k < m → NamedAt said (length table) k
  gathering-named f h = f.named.each k (gathering-said h)

  pub gathering-room : Keyable said table size → k < m → n < length places
  gathering-room f h = omega (arith, g.small, g.all, g.long, f.room)

  pub gathering-step : {after : List ℕ} {equation : Bool} {key r : ℕ} → k < m
      → equation ≡ eqb (kind_in said k) 2 → key ≡ stated_key said table k → Noted places n equation key after r → length after ≡ length places
      → Gathering said table size m after r (k + 1)
  gathering-step {after} {equation} {key} {r} h e f d l =
      record {
        made = d.made ∙ rw (e, f, g.made) (sym (keys-more said table k));
        small = omega (arith, d.small, g.small);
        within = omega arith;
        all = g.all;
        long = l ∙ g.long;
      }

  pub gathering-done : m ≤ k → Gathered said table places n
  gathering-done h =
      let e : k ≡ said_count said = omega (arith, g.within, g.all) in
      record { made = g.made ∙ ap (keys_to said table) e; small = omega (arith, g.small) }

-- ---- the gathered keys, sorted at the front

module _ {said table places : List ℕ} {size n : ℕ} (g : Gathered said table places n) (f : Keyable said table size) (l : length places ≡ size) where
  pub gathered-inside : n ≤ length places
  gathered-inside = omega (arith, g.small, f.room)

  pub gathered-length : n ≡ length (take n places)
  gathered-length = sym (length-take-le n places gathered-inside)

  pub gathered-spare : {more : ℕ} → size ≤ more → length (take n places) ≤ more
  gathered-spare h = omega (arith, gathered-length, gathered-inside)

  pub sorted-gathered : {one : List ℕ} {r : ℕ} → SortedIn (take n places) one r → length one ≡ length (take n places)
      → KeysIn said table (one ++ drop n places) r
  sorted-gathered {one} {r} s e =
      let i : take r (one ++ drop n places) ≡ take r one = take-append-le r one (drop n places) (omega (arith, s.small)) in
      record { sorts = rw i (rw g.made at s.sorts); small = omega (arith, s.small, gathered-length, g.small) }

pub ruleset mine = (
  rules,
  left_there,
  right_there,
  key-lower,
  key-upper,
  key-stated,
  noted-none,
  noted_one,
  gathering-start,
  gathering-said,
  gathering-named,
  gathering-room,
  gathering-step,
  gathering-done,
  gathered-inside,
  gathered-length,
  gathered-spare,
  sorted-gathered,
)
