-- The classes of the context rows that fit, put into a row's set one by one.
--     join-yes, join-no          one context row
--     fits_moved                 whether a context row fits does not rest on the row's own set
--     Gathering, gather-start .. gather-long   all context rows
--     clear_room, symbol-late, gather-cleared  with nothing in the set before
-- Assumes nothing.
use mathlib.Core.Bool.{Bool, true, false, ◌||◌}
use mathlib.Core.List.{List}
use mathlib.Core.Path.{◌≡◌, refl, ap, sym, ◌∙◌, subst}
use mathlib.Core.Logic.{◌⊎◌, inl, inr, ⊎_elim}
use Prim.Native.Nat.{ℕ, ◌+◌, ◌*◌, ◌/◌, ◌%◌, ◌≤◌, ◌<◌}
use native.Mathlib.Omega.{arith}
use borrow.Author.Rules.{rules}
use borrow.Author.Tests.{eqb-true, eqb-false, ne_eqb}
use lib.Dec.{eqb}
use lib.ListN.{length, get_or}
use Rattle.meaning.proofs.Logic.{false-true, or_cases}
use Rattle.bits.specs.Sets.{bit_at, has}
use Rattle.runs.specs.Runs.{row_count, arg_in, pattern_count, pattern_arg_in}
use Rattle.runs.specs.Fit.{Decides}
use Rattle.search_sets.specs.Words.{Changed, Cleared, Added}
use Rattle.search_sets.specs.Rising.{Symbol, RowAsk, FitsIn, Joins, Fitting, Gathered}
use Rattle.search_sets.proofs.Changed.{sets-apart, changed_then, changed-region, has_same}
use Rattle.search_sets.proofs.Symbols.{symbol-again, row-entry}

-- ---- one context row

pub add-room : (rows table patterns : List ℕ) (size more width p i a x : ℕ) → RowAsk rows table patterns size width p i → a ≡ p * width → x ≡ get_or table i 0 → more ≡ size → a + x / 64 < more
add-room rows table patterns size more width p i a x h ea ex es =
    let l : get_or table i 0 < width * 64 = h.symbol.entries i h.below in
    omega (arith, ea, ex, es, l, h.symbol.row.room.long, sets-apart width p (pattern_count patterns + 4) (omega (arith, h.symbol.row.row)))

pub changed-same : (count width : ℕ) (sets : List ℕ) (p : ℕ) → Changed count width sets sets p
changed-same count width sets p = record { long = refl; words = λ q h e j l. refl; known = λ q e. refl; outside = λ q e. refl }

changed-back : (count width : ℕ) (old new : List ℕ) (p : ℕ) → Changed count width old new p → Changed count width new old p
changed-back count width old new p c =
    record { long = sym c.long; words = λ q h e j l. sym (c.words q h e j l); known = λ q e. sym (c.known q e); outside = λ q e. sym (c.outside q e) }

-- a member put in: the others stay
added-kept : (old new : List ℕ) (a x y : ℕ) → Added old new a x → has old a y ≡ true → has new a y ≡ true
unfolding has
added-kept old new a x y d e = word (eqb (y / 64) (x / 64)) refl
  where
    bit : get_or old (a + y / 64) 0 ≡ get_or old (a + x / 64) 0 → (b : Bool) → eqb (y % 64) (x % 64) ≡ b → bit_at (get_or new (a + x / 64) 0) (y % 64) ≡ true
    bit z true w = ap (bit_at (get_or new (a + x / 64) 0)) (eqb-true (y % 64) (x % 64) w) ∙ d.word.here
    bit z false w = d.word.others (y % 64) w ∙ ap (λ (n : ℕ). bit_at n (y % 64)) (sym z) ∙ e

    word : (b : Bool) → eqb (y / 64) (x / 64) ≡ b → has new a y ≡ true
    word true w =
        let z : a + y / 64 ≡ a + x / 64 = ap (λ (n : ℕ). a + n) (eqb-true (y / 64) (x / 64) w) in
        ap (λ (n : ℕ). bit_at (get_or new n 0) (y % 64)) z ∙ bit (ap (λ (n : ℕ). get_or old n 0) z) (eqb (y % 64) (x % 64)) refl
    word false w = ap (λ (n : ℕ). bit_at n (y % 64)) (d.others (a + y / 64) (λ z. eqb-false (y / 64) (x / 64) w (omega (arith, z)))) ∙ e

pub join-yes : (rows table patterns old new : List ℕ) (width p i a x : ℕ) (d : Bool) → RowAsk rows table patterns (length old) width p i → Decides d (FitsIn rows table patterns old width p i) → d ≡ true
    → a ≡ p * width → x ≡ get_or table i 0 → Added old new a x → Joins rows table patterns old new width p i true
unfolding has
join-yes rows table patterns old new width p i a x d h f e ea ex w =
    record {
      changed = changed-region (pattern_count patterns) width old new p (omega (arith, h.symbol.row.row)) w.long (λ j s. w.others j (λ z. apart j s z));
      kept = λ y l t. subst (λ (n : ℕ). has new n y ≡ true) ea (added-kept old new a x y w (subst (λ (n : ℕ). has old n y ≡ true) (sym ea) t));
      fits = record { holds = λ _. f.holds e; sure = λ _. refl };
      joined = λ _. subst (λ (n : ℕ). has new n (get_or table i 0) ≡ true) ea (subst (λ (n : ℕ). has new a n ≡ true) ex w.word.here);
    }
  where
    small : x < width * 64
    small = omega (arith, ex, h.symbol.entries i h.below)

    apart : (j : ℕ) → (j < p * width) ⊎ (p * width + width ≤ j) → j ≡ a + x / 64 → ⊥
    apart j (inl s) z = omega (arith, ea, s, z)
    apart j (inr s) z = omega (arith, ea, s, z, small)

pub join-no : (rows table patterns sets : List ℕ) (width p i : ℕ) (d : Bool) → Decides d (FitsIn rows table patterns sets width p i) → d ≡ false
    → Joins rows table patterns sets sets width p i false
join-no rows table patterns sets width p i d f e =
    record {
      changed = changed-same (pattern_count patterns) width sets p;
      kept = λ y l t. t;
      fits = record { holds = λ t. false-true t refl; sure = λ g. false-true (f.sure g) e };
      joined = λ t. false-true t refl;
    }

-- ---- all context rows

-- the arguments of a row come before it, so its own set does not matter
pub fits_moved : (rows table patterns one two : List ℕ) (size width p i : ℕ) → Symbol rows table patterns size width p → i < row_count rows → Changed (pattern_count patterns) width one two p
    → FitsIn rows table patterns one width p i → FitsIn rows table patterns two width p i
fits_moved rows table patterns one two size width p i h l c f =
    record {
      head = f.head;
      args = λ k b.
          let q : pattern_arg_in patterns p k < p = h.args.earlier.each k (omega (arith, b, f.head.count)) in
          let e : arg_in rows i k < i = (h.placed.each i l).earlier.each k b in
          has_same width one two (pattern_arg_in patterns p k * width) (pattern_arg_in patterns p k * width)
          (c.words (pattern_arg_in patterns p k) (omega (arith, q, h.row.row)) (ne_eqb (pattern_arg_in patterns p k) p (λ z. omega (arith, q, z))))
          (get_or table (arg_in rows i k) 0)
          (h.entries (arg_in rows i k) (omega (arith, e, l)))
          ∙ f.args k b;
    }

pub record Gathering (rows table patterns old new : List ℕ) (width p n i : ℕ) (r : Bool) : Type 0 where
  pub all : n ≡ row_count rows
  pub within : i ≤ n
  pub so : Gathered rows table patterns old new width p i r

pub gather-start : (rows table patterns sets : List ℕ) (width p n i : ℕ) (r : Bool) → n ≡ row_count rows → i ≡ 0 → r ≡ false → Gathering rows table patterns sets sets width p n i r
gather-start rows table patterns sets width p n i r en z e =
    record {
      all = en;
      within = omega arith;
      so = record { changed = changed-same (pattern_count patterns) width sets p; reach = λ j h f. absurd (omega arith); some = λ t. false-true t e };
    }

pub gather-turn : (rows table patterns old mid new : List ℕ) (width p n i m : ℕ) (r d u : Bool) → Symbol rows table patterns (length old) width p
    → Gathering rows table patterns old mid width p n i r → Joins rows table patterns mid new width p i d → u ≡ (r || d) → i < n → m ≡ i + 1 → Gathering rows table patterns old new width p n m u
gather-turn rows table patterns old mid new width p n i m r d u h g j eu l em =
    record {
      all = g.all;
      within = omega arith;
      so = record {
        changed = changed_then (pattern_count patterns) width old mid new p before j.changed;
        reach = λ k b f. reach k b f (eqb k i) refl;
        some = λ t. ⊎_elim earlier here (or_cases r d (sym eu ∙ t));
      };
    }
  where
    before : Changed (pattern_count patterns) width old mid p
    before = g.so.changed

    below : i < row_count rows
    below = omega (arith, g.all, l)

    reach : (k : ℕ) → k < m → FitsIn rows table patterns old width p k → (b : Bool) → eqb k i ≡ b → has new (p * width) (get_or table k 0) ≡ true
    reach k b f true z =
        let e : k ≡ i = eqb-true k i z in
        let t : FitsIn rows table patterns mid width p i = fits_moved rows table patterns old mid (length old) width p i h below before (subst (FitsIn rows table patterns old width p) e f) in
        subst (λ (x : ℕ). has new (p * width) (get_or table x 0) ≡ true) (sym e) (j.joined (j.fits.sure t))
    reach k b f false z =
        let s : k < i = omega (arith, eqb-false k i z) in
        j.kept (get_or table k 0) (h.entries k (omega (arith, s, below))) (g.so.reach k s f)

    earlier : r ≡ true → Fitting rows table patterns old width p m
    earlier t =
        let w : Fitting rows table patterns old width p i = g.so.some t in
        record { row = w.row; below = omega (arith, w.below); fits = w.fits }

    here : d ≡ true → Fitting rows table patterns old width p m
    here t =
        record {
          row = i;
          below = omega arith;
          fits = fits_moved rows table patterns mid old (length old) width p i h below (changed-back (pattern_count patterns) width old mid p before) (j.fits.holds t);
        }

pub gather-end : (rows table patterns old new : List ℕ) (width p n i : ℕ) (r : Bool) → Gathering rows table patterns old new width p n i r → n ≤ i → Gathered rows table patterns old new width p (row_count rows) r
gather-end rows table patterns old new width p n i r g l =
    let e : i ≡ row_count rows = omega (arith, g.all, g.within) in
    subst (λ (k : ℕ). Gathered rows table patterns old new width p k r) e g.so

-- in the loop
pub row-ask-late : (rows table patterns old new : List ℕ) (size width p n i : ℕ) (r : Bool) → Symbol rows table patterns (length old) width p → Gathering rows table patterns old new width p n i r
    → i < n → size ≡ length new → RowAsk rows table patterns size width p i
row-ask-late rows table patterns old new size width p n i r h g l e =
    record { symbol = symbol-again rows table patterns (length old) size width p h (e ∙ g.so.changed.long); below = omega (arith, g.all, l) }

pub gather-long : (rows table patterns old new : List ℕ) (width p n i : ℕ) (r : Bool) → Gathering rows table patterns old new width p n i r → length new ≡ length old
gather-long rows table patterns old new width p n i r g = g.so.changed.long

-- ---- with nothing in the set before

pub clear_room : (rows table patterns : List ℕ) (size width p a : ℕ) → Symbol rows table patterns size width p → a ≡ p * width → a + width ≤ size
clear_room rows table patterns size width p a h ea = omega (arith, ea, h.row.room.long, sets-apart width p (pattern_count patterns + 4) (omega (arith, h.row.row)))

pub symbol-late : (rows table patterns old mid : List ℕ) (size width p a : ℕ) → Symbol rows table patterns (length old) width p → Cleared old mid a width → size ≡ length mid
    → Symbol rows table patterns size width p
symbol-late rows table patterns old mid size width p a h c e = symbol-again rows table patterns (length old) size width p h (e ∙ c.long)

pub gather-cleared : (rows table patterns old mid new : List ℕ) (width p a : ℕ) (r : Bool) → Symbol rows table patterns (length old) width p → a ≡ p * width → Cleared old mid a width
    → Gathered rows table patterns mid new width p (row_count rows) r → Gathered rows table patterns old new width p (row_count rows) r
gather-cleared rows table patterns old mid new width p a r h ea c g =
    record {
      changed = changed_then (pattern_count patterns) width old mid new p before g.changed;
      reach = λ j l f. g.reach j l (fits_moved rows table patterns old mid (length old) width p j h l before f);
      some = λ t.
          let w : Fitting rows table patterns mid width p (row_count rows) = g.some t in
          record {
            row = w.row;
            below = w.below;
            fits = fits_moved rows table patterns mid old (length old) width p w.row h w.below (changed-back (pattern_count patterns) width old mid p before) w.fits;
          };
    }
  where
    before : Changed (pattern_count patterns) width old mid p
    before = changed-region (pattern_count patterns) width old mid p (omega (arith, h.row.row)) c.long (rw ea at c.others)

pub ruleset mine = (rules, row-entry, add-room, join-yes, join-no, gather-start, gather-turn, gather-end, row-ask-late, gather-long, clear_room, symbol-late, gather-cleared)
