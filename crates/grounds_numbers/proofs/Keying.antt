-- Keys by each way out of the code: the numbers of arguments, a key made or copied, two keys compared, the first entry with a key.
--     places-at, places-long    the four places of an entry
--     mine                      what the functions of `numbers` and `keys` leave to show
-- Assumes nothing.
use mathlib.Core.Bool.{Bool, true, false, ◌&&◌}
use mathlib.Core.List.{List, [], ◌∷◌, map}
use mathlib.Core.Path.{◌≡◌, refl, ap, ap₂, sym, ◌∙◌}
use Prim.Native.Nat.{ℕ, ◌+◌, ◌*◌, ◌≤◌, ◌<◌}
use native.Mathlib.Omega.{arith}
use lib.Dec.{eqb, ltb}
use borrow.Author.Count.{below_more}
use borrow.Author.Rules.{rules}
use borrow.Author.Tests.{eq-eqb, ne_eqb, lt-ltb, le-ltb, ltb-true, ltb-false}
use lib.ListN.{length, get_or, set, take, drop, length-take, length-drop, length-set, get_or-eq_default}
use lib.Pointwise.{pointwise}
use lib.Seq.{get_or-take, get_or-drop, get_or-set_same, get_or-set_other, ext_get_or}
use Rattle.meaning.specs.Values.{number_at, args_of}
use Rattle.meaning.specs.ByTable.{same_list}
use Rattle.meaning.specs.Checking.{key_of, same_key}
use Rattle.meaning.proofs.Entries.{length-map, map_at}
use Rattle.runs.specs.Limits.{row_size, pattern_size, arg_places}
use Rattle.runs.specs.Runs.{args_from, row_count, symbol_in, count_in, arg_in, args_in, row_in, pattern_count_in, head_in}
use Rattle.runs.proofs.Saying.{arg-at, args-length}
use Rattle.grounds_numbers.specs.Keys.{after, arg_number, ArgNumbers, Holds, places_in, pattern_row, Like, like-found}

-- ---- the numbers of arguments

module _ (ns run : List ℕ) (at offset count k : ℕ) where
  pub arg-in : (x y : ℕ) → k < count → y ≡ get_or run (at + k) 0 → x ≡ number_at ns (offset + y) → x ≡ arg_number ns run at offset count k
  unfolding arg_number
  arg-in x y h e f = rw (lt-ltb k count h, arg_number, ← e) f

  pub arg-out : count ≤ k → 0 ≡ arg_number ns run at offset count k
  unfolding arg_number
  arg-out h = rw (le-ltb k count h, arg_number)

module _ (ns run : List ℕ) (at offset count : ℕ) (few : count ≤ arg_places) where
  module _ (room : at + arg_places ≤ length run) (l : List ℕ) (long : length l ≡ arg_places)
      (each : (i : ℕ) → i < arg_places → get_or l i 0 ≡ arg_number ns run at offset count i) where
    abbrev given : List ℕ
    given = args_from run at count

    given-long : length given ≡ count
    given-long = args-length run at count room few

    taken_at : (i : ℕ) → i < length (take count l) → get_or (take count l) i 0 ≡ get_or (args_of ns (map (after offset) given)) i 0
    unfolding arg_number
    taken_at i b =
        let c : i < count = omega (arith, length-take count l) in
        get_or-take count l i 0 c
        ∙ each i (omega arith)
        ∙ rw (lt-ltb i count c, arg_number)
        (sym (map_at (number_at ns) (map (after offset) given) i 0 0 (omega (arith, length-map (after offset) given, given-long))
        ∙ ap (number_at ns)
        (map_at (after offset) given i 0 0 (omega (arith, given-long)) ∙ ap (λ (z : ℕ). offset + z) (arg-at run at count i c few))))

    past-at : (i : ℕ) → count ≤ i → get_or l i 0 ≡ 0
    unfolding arg_number
    past-at i h = go (ltb i arg_places) refl
      where
        go : (b : Bool) → ltb i arg_places ≡ b → get_or l i 0 ≡ 0
        go true e = each i (ltb-true i arg_places e) ∙ rw (le-ltb i count h, arg_number)
        go false e = get_or-eq_default l 0 (omega (arith, ltb-false i arg_places e))

    args-four : ArgNumbers ns run at offset count l
    args-four =
        record {
          four = long;
          taken =
              ext_get_or 0 (take count l) (args_of ns (map (after offset) given))
              (omega (arith, length-take count l, length-map (number_at ns) (map (after offset) given), length-map (after offset) given, given-long))
              taken_at;
          rest = past-at;
        }

-- the first k places are filled, and the others are 0
pub record Placed (ns run : List ℕ) (at offset count : ℕ) (places : List ℕ) (k : ℕ) : Type 0 where
  pub most : k ≤ count
  pub four : length places ≡ arg_places
  pub each : (i : ℕ) → i < k → get_or places i 0 ≡ arg_number ns run at offset count i
  pub rest : (i : ℕ) → k ≤ i → get_or places i 0 ≡ 0

module _ (ns run : List ℕ) (at offset count : ℕ) where
  module _ (few : count ≤ arg_places) (l : List ℕ) (k : ℕ) (w : Placed ns run at offset count l k) where
    pub placed-next : (x y : ℕ) → k < count → y ≡ get_or run (at + k) 0 → x ≡ number_at ns (offset + y) → Placed ns run at offset count (set l k x) (k + 1)
    placed-next x y h e f =
        record {
          most = omega arith;
          four = length-set l k x ∙ w.four;
          each = below_more _ _ (λ i b. get_or-set_other l k i x 0 (λ q. omega arith) ∙ w.each i b) (get_or-set_same l k x 0 (omega (arith, w.four)) ∙ arg-in ns run at offset count k x y h e f);
          rest = λ i b. get_or-set_other l k i x 0 (λ q. omega arith) ∙ w.rest i (omega arith);
        }

    pub placed-done : at + arg_places ≤ length run → count ≤ k → ArgNumbers ns run at offset count l
    placed-done room e =
        args-four ns run at offset count few room l w.four (λ i b. go i (ltb i count) refl)
      where
        go : (i : ℕ) (c : Bool) → ltb i count ≡ c → get_or l i 0 ≡ arg_number ns run at offset count i
        go i true q = w.each i (omega (arith, ltb-true i count q))
        go i false q = w.rest i (omega (arith, w.most, ltb-false i count q)) ∙ arg-out ns run at offset count i (ltb-false i count q)

-- ---- a key made

map-after : (l : List ℕ) → map (after 0) l ≡ l
map-after [] = refl
map-after (x ∷ l) = ap₂ ◌∷◌ (omega arith) (map-after l)

module _ (ns run : List ℕ) (i symbol count : ℕ) (places : List ℕ) where
  pub row-key : symbol ≡ symbol_in run i → count ≡ count_in run i → count_in run i ≤ arg_places → ArgNumbers ns run (i * row_size + 2) 0 count places
      → Holds (key_of ns (row_in run i)) symbol count places
  unfolding key_of
  row-key es ec few w =
      record {
        so =
            ap₂ (λ (f : ℕ) (l : List ℕ). record { symbol = f; args = l }) es
            (w.taken ∙ ap (args_of ns) (map-after (args_from run (i * row_size + 2) count)) ∙ ap (λ (c : ℕ). args_of ns (args_from run (i * row_size + 2) c)) ec);
        few = omega arith;
        four = w.four;
        rest = w.rest;
      }

  pub pattern-key : (offset : ℕ) → symbol ≡ head_in run i → count ≡ pattern_count_in run i → pattern_count_in run i ≤ arg_places
      → ArgNumbers ns run (i * pattern_size + 3) offset count places
      → Holds (key_of ns (pattern_row offset run i)) symbol count places
  unfolding key_of
  pattern-key offset es ec few w =
      record {
        so =
            ap₂ (λ (f : ℕ) (l : List ℕ). record { symbol = f; args = l }) es
            (w.taken ∙ ap (λ (c : ℕ). args_of ns (map (after offset) (args_from run (i * pattern_size + 3) c))) ec);
        few = omega arith;
        four = w.four;
        rest = w.rest;
      }

-- ---- a key copied

module _ (keys : List ℕ) (i : ℕ) where
  pub places-at : (k : ℕ) → k < arg_places → get_or (places_in keys i) k 0 ≡ arg_in keys i k
  places-at k h = get_or-take arg_places (drop (i * row_size + 2) keys) k 0 h ∙ get_or-drop (i * row_size + 2) keys k 0

  pub places-long : i < row_count keys → length (places_in keys i) ≡ arg_places
  places-long h = omega (arith, length-take arg_places (drop (i * row_size + 2) keys), length-drop (i * row_size + 2) keys)

-- ---- two keys compared

pointwise-same : (l m : List ℕ) → pointwise eqb l m ≡ same_list l m
unfolding same_list
pointwise-same [] [] = refl
pointwise-same [] (b ∷ m) = refl
pointwise-same (a ∷ l) [] = refl
pointwise-same (a ∷ l) (b ∷ m) = ap (λ (x : Bool). eqb a b && x) (pointwise-same l m)

module _ (keys : List ℕ) (i j p q : ℕ) (ep : p ≡ symbol_in keys i) (eq : q ≡ symbol_in keys j) where
  pub key-symbols : (p ≡ q → ⊥) → eqb p q ≡ same_key (row_in keys i) (row_in keys j)
  unfolding same_key
  key-symbols d = rw (ne_eqb p q d, ne_eqb (symbol_in keys i) (symbol_in keys j) (λ z. d (ep ∙ z ∙ sym eq)))

  pub key-args : (l m : List ℕ) (b : Bool) → p ≡ q → l ≡ args_in keys i → m ≡ args_in keys j → b ≡ pointwise eqb l m → b ≡ same_key (row_in keys i) (row_in keys j)
  unfolding same_key
  key-args l m b z el em e =
      rw (eq-eqb (symbol_in keys i) (symbol_in keys j) (sym ep ∙ z ∙ eq), ← el, ← em) (e ∙ pointwise-same l m)

-- ---- the first entry with a key

-- no entry before j has the key of entry e
pub record Seeking (keys : List ℕ) (e j : ℕ) : Type 0 where
  pub most : j ≤ e
  pub none : (i : ℕ) → i < j → same_key (row_in keys e) (row_in keys i) ≡ false

pub seeking-found : (keys ns : List ℕ) (e j : ℕ) (b : Bool) → b ≡ same_key (row_in keys e) (row_in keys j) → j < e → b ≡ true → Like keys ns e (get_or ns j 0)
seeking-found keys ns e j b eb h g = like-found j h (sym eb ∙ g) refl

pub ruleset mine = (
  rules,
  placed-next,
  placed-done,
  row-key,
  pattern-key,
  key-symbols,
  key-args,
  seeking-found,
)
