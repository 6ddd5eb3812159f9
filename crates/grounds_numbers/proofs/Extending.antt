-- One entry more: its key stands in its places, the keys before it stay, and its number keeps the numbers faithful.
--     entry_row .. clause-made    the key of an entry, by the way that the code takes
--     filled-next                the table after one entry more
--     filled-keys, filled-keyed  what a filled table says to those that read it
--     mine                       what the functions of `table` leave to show
-- Assumes nothing.
use mathlib.Core.Bool.{Bool, true, false}
use mathlib.Core.List.{List, [], ◌∷◌, ◌++◌}
use mathlib.Core.Path.{◌≡◌, refl, ap, ap₂, sym, ◌∙◌, subst}
use mathlib.Core.Logic.{inl, inr}
use Prim.Native.Nat.{ℕ, suc, ◌+◌, ◌-◌, ◌*◌, ◌≤◌, ◌<◌}
use native.Mathlib.Numerals.{add-one}
use native.Mathlib.Omega.{arith}
use lib.Dec.{ltb, eqb}
use borrow.Author.Rules.{rules}
use borrow.Author.Tests.{ltb-true, ltb-false, eqb-true, eqb-false}
use lib.ListN.{length, get_or, set, take, drop, length-append, length-drop, length-set, get_or-append, get_or-map}
use lib.Seq.{length-take-le, get_or-take, get_or-append-add, get_or-set_same, get_or-set_other, ext_get_or}
use Rattle.meaning.specs.Context.{Row, row₀, row_at}
use Rattle.meaning.specs.Rules.{Pattern, variable, variables, Below}
use Rattle.meaning.specs.Formed.{Ordered}
use Rattle.meaning.specs.Values.{number_at, args_of}
use Rattle.meaning.specs.Checking.{entry_of, key_of, keys_of, same_key, alike}
use Rattle.meaning.proofs.Lists.{below_wider}
use Rattle.meaning.proofs.Entries.{length-map, length-entries, entry-front, entry-back, entries-ordered, variable-counted}
use Rattle.meaning.proofs.Faithful.{Outcome, faithful-next}
use Rattle.runs.specs.Limits.{most_variables, row_size, arg_places}
use Rattle.runs.specs.Runs.{put, row_count, count_in, row_in, rows_of, pattern_count, pattern_kind_in, head_in, pattern_in, patterns_of}
use Rattle.runs.proofs.Saying.{length-rows, length-patterns, rows-at, patterns-at, pattern-variable, pattern-symbol}
use Rattle.grounds_numbers.specs.Keys.{Holds, places_in, KeyAt, Copied, pattern_row, Keyed, Like, like-found, like-none, Numbered}
use Rattle.grounds_numbers.specs.Entries.{entries_of, Fillable, Room, Filled}
use Rattle.grounds_numbers.proofs.Keying.{places-at, places-long}

holds_same : {key : Row} {s t c d : ℕ} {p q : List ℕ} → s ≡ t → c ≡ d → p ≡ q → Holds key s c p → Holds key t d q
holds_same es ec ep h = rw (← es, ← ec, ← ep) h

holds_as : {key other : Row} {s c : ℕ} {p : List ℕ} → key ≡ other → Holds key s c p → Holds other s c p
holds_as e h = record { so = h.so ∙ e; few = h.few; four = h.four; rest = h.rest }

-- ---- a key written

module _ (keys : List ℕ) (e s c : ℕ) (l : List ℕ) (four : length l ≡ arg_places) (room : e * row_size + row_size ≤ length keys) where
  abbrev written : List ℕ
  written = put row_size keys e (s ∷ c ∷ l)

  front_long : length (take (e * row_size) keys) ≡ e * row_size
  front_long = length-take-le (e * row_size) keys (omega arith)

  head-long : length (take (e * row_size) keys ++ (s ∷ c ∷ l)) ≡ e * row_size + row_size
  head-long = omega (arith, length-append (take (e * row_size) keys) (s ∷ c ∷ l), front_long)

  written-long : length (put row_size keys e (s ∷ c ∷ l)) ≡ length keys
  written-long =
      omega (arith, length-append (take (e * row_size) keys ++ (s ∷ c ∷ l)) (drop (e * row_size + row_size) keys), head-long, length-drop (e * row_size + row_size) keys)

  kept_at : (x : ℕ) → x < e * row_size → get_or written x 0 ≡ get_or keys x 0
  kept_at x h =
      get_or-append (take (e * row_size) keys ++ (s ∷ c ∷ l)) (drop (e * row_size + row_size) keys) 0 x (omega (arith, head-long))
      ∙ get_or-append (take (e * row_size) keys) (s ∷ c ∷ l) 0 x (omega (arith, front_long))
      ∙ get_or-take (e * row_size) keys x 0 h

  new-at : (x : ℕ) → x < row_size → get_or written (e * row_size + x) 0 ≡ get_or (s ∷ c ∷ l) x 0
  new-at x h =
      get_or-append (take (e * row_size) keys ++ (s ∷ c ∷ l)) (drop (e * row_size + row_size) keys) 0 (e * row_size + x) (omega (arith, head-long))
      ∙ ap (λ (z : ℕ). get_or (take (e * row_size) keys ++ (s ∷ c ∷ l)) (z + x) 0) (sym front_long)
      ∙ get_or-append-add (take (e * row_size) keys) (s ∷ c ∷ l) x 0

  key-kept : {r : Row} (i : ℕ) → i < e → KeyAt keys i r → KeyAt written i r
  key-kept i h k =
      let long : length (places_in keys i) ≡ arg_places = places-long keys i (omega arith) in
      holds_same (sym (kept_at (i * row_size) (omega arith))) (sym (kept_at (i * row_size + 1) (omega arith)))
      (ext_get_or 0 (places_in keys i) (places_in written i) (long ∙ sym (places-long written i (omega (arith, written-long)))) (λ x b.
      let f : x < arg_places = omega arith in
      places-at keys i x f ∙ sym (kept_at (i * row_size + 2 + x) (omega arith)) ∙ sym (places-at written i x f)))
      k

  key-new : {r : Row} → Holds r s c l → KeyAt written e r
  key-new k =
      let zeroth : e * row_size + 0 ≡ e * row_size = omega arith in
      holds_same (sym (rw zeroth at (new-at 0 (omega arith)))) (sym (new-at 1 (omega arith)))
      (ext_get_or 0 l (places_in written e) (four ∙ sym (places-long written e (omega (arith, written-long)))) (λ x b.
      let f : x < arg_places = omega arith in
      let z : e * row_size + suc (suc x) ≡ e * row_size + 2 + x = omega arith in
      sym (places-at written e x f ∙ ap (λ (y : ℕ). get_or written y 0) (sym z) ∙ new-at (suc (suc x)) (omega arith))))
      k

-- ---- what a filled table says

module _ (all : List Row) (keys ns : List ℕ) (e : ℕ) (f : Filled all keys ns e) where
  pub filled-keyed : (n : ℕ) → n ≤ e → e ≤ length all → Keyed keys n
  filled-keyed n h l = record { room = omega (arith, f.keys-long); few = λ i b. (f.keyed i (omega arith)).few }

  pub filled-keys : length all ≡ e → rows_of keys ≡ keys_of ns all
  unfolding keys_of key_of
  filled-keys h =
      let count : row_count keys ≡ e = omega (arith, f.keys-long) in
      ext_get_or row₀ (rows_of keys) (keys_of ns all) (length-rows keys ∙ count ∙ sym h ∙ sym (length-map (key_of ns) all)) (λ i l.
      let b : i < e = omega (arith, length-rows keys) in
      rows-at keys i (omega arith) ∙ (f.keyed i b).so ∙ sym (get_or-map (key_of ns) all i row₀))

-- the first e of n entries are filled, and the runs have their lengths
pub record Filling (all : List Row) (n : ℕ) (keys₀ ns₀ keys ns : List ℕ) (e : ℕ) : Type 0 where
  pub most : e ≤ n
  pub keys-same : length keys ≡ length keys₀
  pub numbers-same : length ns ≡ length ns₀
  pub filled : Filled all keys ns e

-- ---- all entries

module _ (rows patterns a : List ℕ) (w : Fillable rows patterns a) where
  abbrev all : List Row
  all = entries_of rows a patterns

  pub all-long : length (entries_of rows a patterns) ≡ row_count rows + pattern_count patterns
  all-long = length-entries (rows_of rows) a (patterns_of patterns) ∙ ap₂ (λ (x y : ℕ). x + y) (length-rows rows) (length-patterns patterns)

  chosen-rows : (v : ℕ) → v < variables (patterns_of patterns) → (v < length a) × (get_or a v 0 < length (rows_of rows))
  chosen-rows v h = ((w.chosen v h).0, omega (arith, (w.chosen v h).1, length-rows rows))

  all-ordered : Ordered (entries_of rows a patterns)
  all-ordered = entries-ordered (rows_of rows) a (patterns_of patterns) w.ordered w.placed chosen-rows

  all_row : (i : ℕ) → i < row_count rows → row_at all i ≡ row_in rows i
  all_row i h = entry-front (rows_of rows) a (patterns_of patterns) i (omega (arith, length-rows rows)) ∙ rows-at rows i h

  all-pattern : (p : ℕ) → p < pattern_count patterns → row_at all (row_count rows + p) ≡ entry_of (rows_of rows) a (pattern_in patterns p)
  all-pattern p h =
      ap (λ (x : ℕ). row_at all (x + p)) (sym (length-rows rows))
      ∙ entry-back (rows_of rows) a (patterns_of patterns) p (omega (arith, length-patterns patterns))
      ∙ ap (entry_of (rows_of rows) a) (patterns-at patterns p (variable 0) h)

  -- a variable that is a pattern row has a context row
  variable-chosen : (p : ℕ) → p < pattern_count patterns → pattern_kind_in patterns p ≡ 4 → (head_in patterns p < most_variables) × (get_or a (head_in patterns p) 0 < row_count rows)
  unfolding variables
  variable-chosen p h e =
      let q : get_or (patterns_of patterns) p (variable 0) ≡ variable (head_in patterns p) = patterns-at patterns p (variable 0) h ∙ pattern-variable patterns p e in
      let l : variables (variable (head_in patterns p) ∷ []) ≤ variables (patterns_of patterns) =
      subst (λ (x : Pattern). variables (x ∷ []) ≤ variables (patterns_of patterns)) q (variable-counted (patterns_of patterns) p (omega (arith, length-patterns patterns))) in
      let c : (head_in patterns p < length a) × (get_or a (head_in patterns p) 0 < row_count rows) = w.chosen (head_in patterns p) (omega arith) in
      (omega (arith, c.0, w.four), c.1)

  module _ (keys ns : List ℕ) where
    -- ---- the key of entry e

    module _ (e : ℕ) (f : Filled (entries_of rows a patterns) keys ns e) (inside : e < row_count rows + pattern_count patterns) where
      module _ (n : ℕ) (en : n ≡ row_count rows) (early : e < n) where
        pub entry_row : (s c : ℕ) (l : List ℕ) → Holds (key_of ns (row_in rows e)) s c l → Holds (key_of ns (row_at (entries_of rows a patterns) e)) s c l
        entry_row s c l k = holds_as (ap (key_of ns) (sym (all_row e (omega arith)))) k

      module _ (n : ℕ) (en : n ≡ row_count rows) (late : n ≤ e) where
        place : row_count rows + (e - n) ≡ e
        place = omega arith

        pub clause-inside : e - n < pattern_count patterns
        clause-inside = omega arith

        pub clause-offset : n ≤ length ns
        clause-offset = omega (arith, f.numbers-long, all-long)

        entry-at : row_at all e ≡ entry_of (rows_of rows) a (pattern_in patterns (e - n))
        entry-at = ap (row_at all) (sym place) ∙ all-pattern (e - n) clause-inside

        module _ (d : Bool) (ed : d ≡ eqb (pattern_kind_in patterns (e - n)) 4) where
          symbol : d ≡ false → pattern_kind_in patterns (e - n) ≡ 4 → ⊥
          symbol q = eqb-false (pattern_kind_in patterns (e - n)) 4 (sym ed ∙ q)

          module _ (is : d ≡ true) (h v : ℕ) (eh : h ≡ head_in patterns (e - n)) (ev : v ≡ h) where
            kind : pattern_kind_in patterns (e - n) ≡ 4
            kind = eqb-true (pattern_kind_in patterns (e - n)) 4 (sym ed ∙ is)

            pub clause-head : v < most_variables
            clause-head = omega (arith, (variable-chosen (e - n) clause-inside kind).0)

            module _ (x : ℕ) (ex : x ≡ get_or a v 0) where
              named : x ≡ get_or a (head_in patterns (e - n)) 0
              named = ex ∙ ap (λ (z : ℕ). get_or a z 0) (ev ∙ eh)

              chosen : x < row_count rows
              chosen = omega (arith, named, (variable-chosen (e - n) clause-inside kind).1)

              pub clause-row : x < row_count keys
              clause-row = omega (arith, chosen, f.keys-long, all-long)

              held : KeyAt keys x (key_of ns (row_at all x))
              held = f.keyed x (omega (arith, chosen))

              pub clause-row-few : count_in keys x ≤ arg_places
              clause-row-few = held.few

              same_row : row_at all x ≡ row_at all e
              unfolding entry_of
              same_row =
                  all_row x chosen
                  ∙ sym (entry-at
                  ∙ ap (entry_of (rows_of rows) a) (pattern-variable patterns (e - n) kind)
                  ∙ ap (row_at (rows_of rows)) (sym named)
                  ∙ rows-at rows x chosen)

              pub clause-held : (s c : ℕ) (l : List ℕ) → Copied keys x s c l → Holds (key_of ns (row_at (entries_of rows a patterns) e)) s c l
              clause-held s c l k =
                  holds_as (ap (key_of ns) same_row) (holds_same (sym k.symbols) (sym k.counts) (sym k.all) held)

          pub clause-made : (s c : ℕ) (l : List ℕ) → d ≡ false → Holds (key_of ns (pattern_row n patterns (e - n))) s c l
              → Holds (key_of ns (row_at (entries_of rows a patterns) e)) s c l
          unfolding entry_of
          clause-made s c l q k =
              holds_as
              (ap (key_of ns)
              (ap (λ (x : ℕ). pattern_row x patterns (e - n)) (en ∙ sym (length-rows rows))
              ∙ sym (entry-at ∙ ap (entry_of (rows_of rows) a) (pattern-symbol patterns (e - n) (symbol q)))))
              k

      -- ---- one entry more

      pub extend-inside : e < length ns
      extend-inside = omega (arith, f.numbers-long, all-long)

      pub entry-room : e * row_size + row_size ≤ length keys
      entry-room = omega (arith, f.keys-long, all-long)

      module _ (s c : ℕ) (l : List ℕ) (k : Holds (key_of ns (row_at (entries_of rows a patterns) e)) s c l) where
        abbrev K : List ℕ
        K = put row_size keys e (s ∷ c ∷ l)

        key-at : (i : ℕ) → i < suc e → KeyAt K i (key_of ns (row_at all i))
        key-at i h = go (ltb i e) refl
          where
            go : (b : Bool) → ltb i e ≡ b → KeyAt K i (key_of ns (row_at all i))
            go true q = key-kept keys e s c l k.four entry-room i (ltb-true i e q) (f.keyed i (ltb-true i e q))
            go false q =
                let z : e ≡ i = omega (arith, ltb-false i e q) in
                subst (λ (x : ℕ). KeyAt K x (key_of ns (row_at all x))) z (key-new keys e s c l k.four entry-room k)

        module _ (K' : List ℕ) (e_k : K' ≡ put row_size keys e (s ∷ c ∷ l)) where
          pub extend-keyed : Keyed K' (e + 1)
          extend-keyed =
              rw e_k
              (record {
                room = omega (arith, written-long keys e s c l k.four entry-room, entry-room);
                few = λ i h. (key-at i (omega arith)).few;
              })

          alike-rows : (j : ℕ) → j < e → alike all ns e j ≡ same_key (row_in K e) (row_in K j)
          unfolding alike
          alike-rows j h = rw ((key-at e (omega arith)).so, (key-at j (omega arith)).so)

          like-outcome : (x : ℕ) → Like K ns e x → Outcome all ns e x
          like-outcome x (like-found j h q z) = inl (j, h, alike-rows j h ∙ q, z)
          like-outcome x (like-none q z) = inr (λ j h. alike-rows j h ∙ q j h, z)

          module _ (x : ℕ) where
            abbrev N : List ℕ
            N = set ns e x

            number-kept : (j : ℕ) → j < e → number_at N j ≡ number_at ns j
            number-kept j h = get_or-set_other ns e j x 0 (λ q. omega arith)

            number-new : number_at N e ≡ x
            number-new = get_or-set_same ns e x 0 extend-inside

            args-kept : (m : List ℕ) → Below e m → args_of N m ≡ args_of ns m
            args-kept [] b = refl
            args-kept (y ∷ m) b = ap₂ ◌∷◌ (number-kept y b.0) (args-kept m b.1)

            row_kept : (i : ℕ) → i < suc e → key_of ns (row_at all i) ≡ key_of N (row_at all i)
            unfolding key_of
            row_kept i h =
                ap (λ (m : List ℕ). record { symbol = (row_at all i).symbol; args = m })
                (sym (args-kept (row_at all i).args (below_wider i e (row_at all i).args (omega arith) (all-ordered i (omega (arith, all-long))))))

            extended : Like K' ns e x → Filled (entries_of rows a patterns) K' (set ns e x) (e + 1)
            extended like =
                rw e_k
                (record {
                  keys-long = written-long keys e s c l k.four entry-room ∙ f.keys-long;
                  numbers-long = length-set ns e x ∙ f.numbers-long;
                  keyed = λ i h. holds_as (row_kept i (omega arith)) (key-at i (omega arith));
                  faithful =
                      rw (add-one e)
                      (faithful-next all ns N e all-ordered f.faithful (omega (arith, all-long)) number-kept
                      (subst (Outcome all ns e) (sym number-new) (like-outcome x (rw e_k at like))));
                })

          pub extend-done : (exit : List ℕ) → Numbered K' ns e exit → Filled (entries_of rows a patterns) K' exit (e + 1)
          extend-done exit n = rw n.so (extended n.number n.like)

  -- ---- the loop

  pub fill_start : (keys ns : List ℕ) (n : ℕ) → Room rows patterns keys ns → Filling (entries_of rows a patterns) n keys ns keys ns 0
  fill_start keys ns n r =
      record {
        most = omega arith;
        keys-same = refl;
        numbers-same = refl;
        filled =
            record {
              keys-long = r.keys-long ∙ ap (λ (z : ℕ). z * row_size) (sym all-long);
              numbers-long = r.numbers-long ∙ sym all-long;
              keyed = λ i h. absurd (omega arith);
              faithful = record { low = λ i h. absurd (omega arith); settled = λ i h. absurd (omega arith); sound = λ i j h g q. absurd (omega arith); complete = λ i j h g q. absurd (omega arith) };
            };
      }

module _ (given : List Row) (n : ℕ) (keys₀ ns₀ keys ns : List ℕ) (e : ℕ) (f : Filling given n keys₀ ns₀ keys ns e) where
  pub fill-next : (keys' ns' : List ℕ) → e < n → Filled given keys' ns' (e + 1) → Filling given n keys₀ ns₀ keys' ns' (e + 1)
  fill-next keys' ns' h g =
      record {
        most = omega arith;
        keys-same = g.keys-long ∙ sym f.filled.keys-long ∙ f.keys-same;
        numbers-same = g.numbers-long ∙ sym f.filled.numbers-long ∙ f.numbers-same;
        filled = g;
      }

pub ruleset mine = (
  rules,
  entry_row,
  clause-offset,
  clause-head,
  clause-row,
  clause-row-few,
  clause-held,
  clause-made,
  fill_start,
  fill-next,
)
