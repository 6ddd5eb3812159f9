-- The classes of the arguments of context rows that fit and have a class of the row, put into the scratch.
--     table-yes, table-no        whether a context row is such
--     grown-same                 no bit is taken
--     put-few .. put-arg         one argument of one context row
--     Adding, adds-start .. adds-row     all of its arguments
--     see-ask .. see-no, Seeing, seen_start .. seen-long   one context row; all of them
-- Assumes nothing.
use mathlib.Core.Bool.{Bool, true, false, ◌||◌}
use mathlib.Core.List.{List}
use mathlib.Core.Path.{◌≡◌, refl, ap, sym, ◌∙◌, subst}
use Prim.Native.Nat.{ℕ, ◌+◌, ◌*◌, ◌/◌, ◌%◌, ◌≤◌, ◌<◌}
use native.Mathlib.Omega.{arith}
use borrow.Author.Rules.{rules}
use borrow.Author.Tests.{eqb-true, eqb-false}
use lib.Dec.{eqb}
use lib.ListN.{length, get_or}
use Rattle.meaning.proofs.Logic.{false-true, or-none}
use Rattle.bits.specs.Sets.{bit_at, has}
use Rattle.runs.specs.Limits.{arg_places}
use Rattle.runs.specs.Runs.{row_count, count_in, arg_in}
use Rattle.runs.specs.Fit.{Decides}
use Rattle.search_sets.specs.Words.{Added, Grown}
use Rattle.search_sets.specs.Rising.{RowAsk, FitsIn}
use Rattle.search_sets.specs.Sinking.{SinkAsk, SinkRowAsk, TableRow, AddAsk, AddArgAsk, AddsArg, AddsArgs, Sees, Seen}
use Rattle.search_sets.proofs.Changed.{sets-apart}
use Rattle.search_sets.proofs.Symbols.{row-entry, row_below}
use Rattle.search_sets.proofs.Gathering.{add-room}

-- ---- whether a context row is one of the table's

pub table-yes : (rows table patterns sets : List ℕ) (width p i a x : ℕ) (m r : Bool) → a ≡ p * width → x ≡ get_or table i 0 → m ≡ has sets a x → m ≡ true → Decides r (FitsIn rows table patterns sets width p i)
    → Decides r (TableRow rows table patterns sets width p i)
table-yes rows table patterns sets width p i a x m r ea ex em t d =
    record {
      holds = λ e. record { class = subst (λ (n : ℕ). has sets (p * width) n ≡ true) ex (subst (λ (n : ℕ). has sets n x ≡ true) ea (sym em ∙ t)); fits = d.holds e };
      sure = λ w. d.sure w.fits;
    }

pub table-no : (rows table patterns sets : List ℕ) (width p i a x : ℕ) (m : Bool) → a ≡ p * width → x ≡ get_or table i 0 → m ≡ has sets a x → m ≡ false → Decides false (TableRow rows table patterns sets width p i)
table-no rows table patterns sets width p i a x m ea ex em t =
    record { holds = λ e. false-true e refl; sure = λ w. false-true w.class (ap (λ (n : ℕ). has sets n (get_or table i 0)) (sym ea) ∙ ap (has sets a) (sym ex) ∙ sym em ∙ t) }

-- ---- bits added

pub grown-same : (sets : List ℕ) → Grown sets sets
grown-same sets = record { long = refl; bits = λ j q e. e }

grown-then : (old mid new : List ℕ) → Grown old mid → Grown mid new → Grown old new
grown-then old mid new f g = record { long = g.long ∙ f.long; bits = λ j q e. g.bits j q (f.bits j q e) }

grown-has : (old new : List ℕ) → Grown old new → (a x : ℕ) → has old a x ≡ true → has new a x ≡ true
unfolding has
grown-has old new g a x e = g.bits (a + x / 64) (x % 64) e

grown-added : (old new : List ℕ) (a x : ℕ) → Added old new a x → Grown old new
grown-added old new a x d = record { long = d.long; bits = λ j q e. word j q e (eqb j (a + x / 64)) refl }
  where
    bit : (q : ℕ) → bit_at (get_or old (a + x / 64) 0) q ≡ true → (b : Bool) → eqb q (x % 64) ≡ b → bit_at (get_or new (a + x / 64) 0) q ≡ true
    bit q e true z = ap (bit_at (get_or new (a + x / 64) 0)) (eqb-true q (x % 64) z) ∙ d.word.here
    bit q e false z = d.word.others q z ∙ e

    word : (j q : ℕ) → bit_at (get_or old j 0) q ≡ true → (b : Bool) → eqb j (a + x / 64) ≡ b → bit_at (get_or new j 0) q ≡ true
    word j q e true z =
        let y : j ≡ a + x / 64 = eqb-true j (a + x / 64) z in
        subst (λ (n : ℕ). bit_at (get_or new n 0) q ≡ true) (sym y) (bit q (subst (λ (n : ℕ). bit_at (get_or old n 0) q ≡ true) y e) (eqb q (x % 64)) refl)
    word j q e false z = ap (λ (n : ℕ). bit_at n q) (d.others j (eqb-false j (a + x / 64) z)) ∙ e

-- ---- the arguments of one context row

module _ (rows table : List ℕ) (more width i k : ℕ) (h : AddArgAsk rows table more width i k) where
  pub put-few : k < arg_places
  put-few = omega (arith, h.place, h.ask.placed.few)

  pub put-set : k < 69
  put-set = omega (arith, h.place, h.ask.placed.few)

  pub put-row : i < row_count rows
  put-row = h.ask.below

  put-earlier : arg_in rows i k < i
  put-earlier = h.ask.placed.earlier.each k h.place

  pub put-entry : (j : ℕ) → j ≡ arg_in rows i k → j < length table
  put-entry j e = omega (arith, e, put-earlier, h.ask.below, h.ask.long)

  put_small : get_or table (arg_in rows i k) 0 < width * 64
  put_small = h.ask.entries (arg_in rows i k) (omega (arith, put-earlier, h.ask.below))

  pub put-room : (j c b : ℕ) → j ≡ arg_in rows i k → c ≡ get_or table j 0 → b ≡ k * width → b + c / 64 < more
  put-room j c b ej ec eb =
      let z : c ≡ get_or table (arg_in rows i k) 0 = ec ∙ ap (λ (n : ℕ). get_or table n 0) ej in
      omega (arith, z, eb, put_small, h.ask.wide, sets-apart width k 4 (omega (arith, h.place, h.ask.placed.few)))

pub put-arg : (rows table old new : List ℕ) (width i k j c b : ℕ) → j ≡ arg_in rows i k → c ≡ get_or table j 0 → b ≡ k * width → Added old new b c → AddsArg rows table old new width i k
unfolding has
put-arg rows table old new width i k j c b ej ec eb d =
    record {
      grown = grown-added old new b c d;
      put = subst (λ (n : ℕ). has new n (get_or table (arg_in rows i k) 0) ≡ true) eb
          (subst (λ (n : ℕ). has new b n ≡ true) (ec ∙ ap (λ (n : ℕ). get_or table n 0) ej) d.word.here);
    }

pub record Adding (rows table old new : List ℕ) (width i n k : ℕ) : Type 0 where
  pub all : n ≡ count_in rows i
  pub within : k ≤ n
  pub so : AddsArgs rows table old new width i k

pub adds-start : (rows table sets : List ℕ) (width i n k : ℕ) → n ≡ count_in rows i → k ≡ 0 → Adding rows table sets sets width i n k
adds-start rows table sets width i n k e z = record { all = e; within = omega arith; so = record { grown = grown-same sets; put = λ j h. absurd (omega arith) } }

pub adds-turn : (rows table old mid new : List ℕ) (width i n k m : ℕ) → Adding rows table old mid width i n k → AddsArg rows table mid new width i k → k < n → m ≡ k + 1 → Adding rows table old new width i n m
adds-turn rows table old mid new width i n k m f d l em =
    record { all = f.all; within = omega arith; so = record { grown = grown-then old mid new f.so.grown d.grown; put = λ j h. go j h (eqb j k) refl } }
  where
    go : (j : ℕ) → j < m → (b : Bool) → eqb j k ≡ b → has new (j * width) (get_or table (arg_in rows i j) 0) ≡ true
    go j h true e = subst (λ (x : ℕ). has new (x * width) (get_or table (arg_in rows i x) 0) ≡ true) (sym (eqb-true j k e)) d.put
    go j h false e = grown-has mid new d.grown (j * width) (get_or table (arg_in rows i j) 0) (f.so.put j (omega (arith, eqb-false j k e)))

pub adds-end : (rows table old new : List ℕ) (width i n k : ℕ) → Adding rows table old new width i n k → n ≤ k → AddsArgs rows table old new width i (count_in rows i)
adds-end rows table old new width i n k f l =
    let e : k ≡ count_in rows i = omega (arith, f.all, f.within) in
    subst (AddsArgs rows table old new width i) e f.so

pub adds-ask : (rows table old new : List ℕ) (size width i n k : ℕ) → AddAsk rows table (length old) width i → Adding rows table old new width i n k → k < n → size ≡ length new
    → AddArgAsk rows table size width i k
adds-ask rows table old new size width i n k h f l e =
    record { ask = subst (λ (m : ℕ). AddAsk rows table m width i) (sym (e ∙ f.so.grown.long)) h; place = omega (arith, f.all, l) }

pub adds-long : (rows table old new : List ℕ) (width i n k : ℕ) → Adding rows table old new width i n k → length new ≡ length old
adds-long rows table old new width i n k f = f.so.grown.long

pub adds-row : (rows table : List ℕ) (more width i : ℕ) → AddAsk rows table more width i → i < row_count rows
adds-row rows table more width i h = h.below

-- ---- one context row

pub see-ask : (rows table patterns : List ℕ) (size more width p i : ℕ) → SinkRowAsk rows table patterns size more width p i → RowAsk rows table patterns size width p i
see-ask rows table patterns size more width p i h = record { symbol = h.ask.symbol; below = h.below }

pub see-adds : (rows table patterns : List ℕ) (size more width p i : ℕ) → SinkRowAsk rows table patterns size more width p i → AddAsk rows table more width i
see-adds rows table patterns size more width p i h =
    record {
      below = h.below;
      placed = h.ask.symbol.placed.each i h.below;
      entries = h.ask.symbol.entries;
      long = h.ask.symbol.long;
      wide = h.ask.wide;
      narrow = h.ask.symbol.row.room.narrow;
    }

pub see-yes : (rows table patterns sets old new : List ℕ) (width p i : ℕ) (d : Bool) → Decides d (TableRow rows table patterns sets width p i) → d ≡ true
    → AddsArgs rows table old new width i (count_in rows i) → Sees rows table patterns sets old new width p i true
see-yes rows table patterns sets old new width p i d w e f =
    record { grown = f.grown; row = record { holds = λ _. w.holds e; sure = λ _. refl }; put = λ _. f.put }

pub see-no : (rows table patterns sets old : List ℕ) (width p i : ℕ) (d : Bool) → Decides d (TableRow rows table patterns sets width p i) → d ≡ false
    → Sees rows table patterns sets old old width p i false
see-no rows table patterns sets old width p i d w e =
    record { grown = grown-same old; row = record { holds = λ t. false-true t refl; sure = λ t. false-true (w.sure t) e }; put = λ t. false-true t refl }

-- ---- all context rows

pub record Seeing (rows table patterns sets old new : List ℕ) (width p n i : ℕ) (r : Bool) : Type 0 where
  pub all : n ≡ row_count rows
  pub within : i ≤ n
  pub so : Seen rows table patterns sets old new width p i r

pub seen_start : (rows table patterns sets old : List ℕ) (width p n i : ℕ) (r : Bool) → n ≡ row_count rows → i ≡ 0 → Seeing rows table patterns sets old old width p n i r
seen_start rows table patterns sets old width p n i r e z =
    record { all = e; within = omega arith; so = record { grown = grown-same old; put = λ j h. absurd (omega arith); none = λ _ j h. absurd (omega arith) } }

pub seen-turn : (rows table patterns sets old mid new : List ℕ) (width p n i m : ℕ) (r d u : Bool) → Seeing rows table patterns sets old mid width p n i r
    → Sees rows table patterns sets mid new width p i d → u ≡ (r || d) → i < n → m ≡ i + 1 → Seeing rows table patterns sets old new width p n m u
seen-turn rows table patterns sets old mid new width p n i m r d u f w eu l em =
    record {
      all = f.all;
      within = omega arith;
      so = record {
        grown = grown-then old mid new f.so.grown w.grown;
        put = λ j h t k b. put j h t k b (eqb j i) refl;
        none = λ e j h t. none (or-none r d (sym eu ∙ e)) j h t (eqb j i) refl;
      };
    }
  where
    put : (j : ℕ) → j < m → TableRow rows table patterns sets width p j → (k : ℕ) → k < count_in rows j → (b : Bool) → eqb j i ≡ b
        → has new (k * width) (get_or table (arg_in rows j k) 0) ≡ true
    put j h t k b true e =
        let z : j ≡ i = eqb-true j i e in
        subst (λ (x : ℕ). has new (k * width) (get_or table (arg_in rows x k) 0) ≡ true) (sym z)
        (w.put (w.row.sure (subst (TableRow rows table patterns sets width p) z t)) k (subst (λ (x : ℕ). k < count_in rows x) z b))
    put j h t k b false e = grown-has mid new w.grown (k * width) (get_or table (arg_in rows j k) 0) (f.so.put j (omega (arith, eqb-false j i e)) t k b)

    none : (r ≡ false) × (d ≡ false) → (j : ℕ) → j < m → TableRow rows table patterns sets width p j → (b : Bool) → eqb j i ≡ b → ⊥
    none o j h t true e = false-true (w.row.sure (subst (TableRow rows table patterns sets width p) (eqb-true j i e) t)) o.1
    none o j h t false e = f.so.none o.0 j (omega (arith, eqb-false j i e)) t

pub seen_end : (rows table patterns sets old new : List ℕ) (width p n i : ℕ) (r : Bool) → Seeing rows table patterns sets old new width p n i r → n ≤ i
    → Seen rows table patterns sets old new width p (row_count rows) r
seen_end rows table patterns sets old new width p n i r f l =
    let e : i ≡ row_count rows = omega (arith, f.all, f.within) in
    subst (λ (k : ℕ). Seen rows table patterns sets old new width p k r) e f.so

pub seen-ask : (rows table patterns sets old new : List ℕ) (size more width p n i : ℕ) (r : Bool) → SinkAsk rows table patterns size (length old) width p
    → Seeing rows table patterns sets old new width p n i r → i < n → more ≡ length new → SinkRowAsk rows table patterns size more width p i
seen-ask rows table patterns sets old new size more width p n i r h f l e =
    record { ask = subst (λ (m : ℕ). SinkAsk rows table patterns size m width p) (sym (e ∙ f.so.grown.long)) h; below = omega (arith, f.all, l) }

pub seen-long : (rows table patterns sets old new : List ℕ) (width p n i : ℕ) (r : Bool) → Seeing rows table patterns sets old new width p n i r → length new ≡ length old
seen-long rows table patterns sets old new width p n i r f = f.so.grown.long

pub ruleset mine = (rules, row-entry, row_below, add-room, table-yes, table-no, put-few, put-set, put-row, put-entry, put-room, put-arg, adds-start, adds-turn, adds-end, adds-ask, adds-long, adds-row, see-ask, see-adds, see-yes, see-no, seen_start, seen-turn, seen_end, seen-ask, seen-long)
