-- Rows that agree with a row and have another label.
--     Passing, Walking      the rows over a class, and the members of a label, that have been looked at
--     mate-none, mate-found no such row, by one place of the row; one that is so
-- Assumes nothing.
use mathlib.Core.Bool.{Bool, true, false}
use mathlib.Core.List.{List, [], ◌∷◌, map}
use mathlib.Core.Path.{◌≡◌, refl, ap, sym, ◌∙◌, subst}
use Prim.Native.Nat.{ℕ, ◌+◌, ◌*◌, ◌≤◌, ◌<◌}
use native.Mathlib.Omega.{arith}
use native.Mathlib.Decide.{dec_lt, ℕ_discrete}
use borrow.Author.Rules.{rules}
use lib.ListN.{length, get_or}
use Rattle.meaning.specs.Context.{Row, row_at}
use Rattle.meaning.specs.Equality.{rep_at}
use Rattle.meaning.proofs.Lists.{below_at}
use Rattle.meaning.proofs.Logic.{false-true}
use Rattle.meaning.proofs.Promised.{representatives-closed}
use Rattle.std.specs.Prelude.{Option, None, Some}
use Rattle.bits.specs.Sets.{has}
use Rattle.runs.specs.Limits.{row_size}
use Rattle.runs.specs.Runs.{row_count, count_in, arg_in, rows_of, context_of}
use Rattle.runs.proofs.Saying.{length-rows, rows-at, arg-at, row-length}
use Rattle.search_pairs.specs.Ready.{arg_of, arg_count, words_for, most_words, over_at, Ready}
use Rattle.search_pairs.specs.Steps.{Laid, Space, Labelled, sets_size, ClassAt, NoClass, MemberAt, NoMember, Own, Inside, label_by, agree_by, Differs, Partner, NoneOver, NoneOverLabel, OverLabel, NoMate, Mate}
use Rattle.search_pairs.proofs.Rows.{agree_by-true}
use Rattle.search_pairs.proofs.Members.{Walk, walk_start, walk_step, walk-done, class-less, member-less}
use Rattle.search_pairs.proofs.Joining.{set_room}

-- ---- one row

module _ (rows : List Row) (table labels : List ℕ) (r s x y : ℕ) (ex : x ≡ label_by table labels r) (ey : y ≡ label_by table labels s) where
  pub differs-same : x ≡ y → Differs rows table labels r s false
  differs-same e = record { agrees = λ z. false-true z refl; other = λ z. false-true z refl; same = λ _ _. sym ex ∙ e ∙ ey }

  pub differs-agree : (b : Bool) → (x ≡ y → ⊥) → b ≡ agree_by (label_by table labels) rows r s → Differs rows table labels r s b
  differs-agree b n e = record { agrees = λ z. sym e ∙ z; other = λ _ q. n (ex ∙ q ∙ sym ey); same = λ z a. false-true (e ∙ a) z }

-- ---- the rows over a class

-- none of those before a place agrees and has another label
pub record Passing (rows table sets labels : List ℕ) (a r n base from : ℕ) : Type 0 where
  pub count : n ≡ row_count rows
  pub at : base ≡ a * words_for n
  pub none : (t : ℕ) → t < from → t < row_count rows → over_at (row_count rows) sets a t ≡ true → agree_by (label_by table labels) (rows_of rows) r t ≡ true
      → label_by table labels r ≡ label_by table labels t

pub seek-room : (m len a n base : ℕ) → n ≡ m → (base ≡ a * words_for n) × (base ≤ 65536) → sets_size m ≤ len → a < m → base + words_for n ≤ len
seek-room m len a n base en eb l h =
    let z : a * words_for m + words_for m ≤ len = set_room m a len (omega arith) l in
    let q : base ≡ a * words_for m = eb.0 ∙ ap (λ (v : ℕ). a * words_for v) en in
    let u : words_for n ≡ words_for m = ap words_for en in
    omega arith

pub seek-few : (rows : List ℕ) (n : ℕ) → Laid rows → n ≡ row_count rows → words_for n ≤ most_words
seek-few rows n l e = rw e l.room

module _ (rows table sets labels : List ℕ) (a r n base : ℕ) where
  pub passing-start : n ≡ row_count rows → (base ≡ a * words_for n) × (base ≤ 65536) → Passing rows table sets labels a r n base 0
  passing-start en eb = record { count = en; at = eb.0; none = λ t l. absurd (omega arith) }

  module _ (from : ℕ) (p : Passing rows table sets labels a r n base from) where
    over : (t : ℕ) → over_at (row_count rows) sets a t ≡ true → has sets base t ≡ true
    over t o = ap (λ (v : ℕ). has sets v t) (p.at ∙ ap (λ (v : ℕ). a * words_for v) p.count) ∙ o

    module _ (s : ℕ) (c : ClassAt n sets base from s) where
      pub passing-inside : s < row_count rows
      passing-inside = omega (arith, c.inside, p.count)

      module _ (b : Bool) (d : Differs (rows_of rows) table labels r s b) where
        pub passing_step : (x : ℕ) → b ≡ false → x ≡ s + 1 → Passing rows table sets labels a r n base x
        passing_step x e ex = record { count = p.count; at = p.at; none = λ t l i o q. go t l i o q (dec_lt t from) (ℕ_discrete t s) }
          where
            go : (t : ℕ) → t < x → t < row_count rows → over_at (row_count rows) sets a t ≡ true → agree_by (label_by table labels) (rows_of rows) r t ≡ true
                → Dec (t < from) → Dec (t ≡ s) → label_by table labels r ≡ label_by table labels t
            go t l i o q (yes y) z = p.none t y i o q
            go t l i o q (no y) (yes z) = rw z (d.same e (rw z at q))
            go t l i o q (no y) (no z) = false-true (over t o) (c.first t (omega arith) (omega arith))

        pub passing-found : b ≡ true → Partner rows table labels r s
        passing-found e = record { inside = passing-inside; agrees = d.agrees e; other = d.other e }

    pub passing-none : NoClass n sets base from → NoneOver rows table sets labels a r
    passing-none c = record { none = λ t i o q. go t i o q (dec_lt t from) }
      where
        go : (t : ℕ) → t < row_count rows → over_at (row_count rows) sets a t ≡ true → agree_by (label_by table labels) (rows_of rows) r t ≡ true → Dec (t < from)
            → label_by table labels r ≡ label_by table labels t
        go t i o q (yes y) = p.none t y i o q
        go t i o q (no y) = false-true (over t o) (c.none t (omega arith) (omega (arith, p.count)))

-- ---- the rows over the members of a label

pub record Walking (rows table sets labels : List ℕ) (z r n from : ℕ) : Type 0 where
  pub count : n ≡ row_count rows
  pub walk : Walk (row_count rows) labels z (λ a. (t : ℕ) → t < row_count rows → over_at (row_count rows) sets a t ≡ true
      → agree_by (label_by table labels) (rows_of rows) r t ≡ true → label_by table labels r ≡ label_by table labels t) from

module _ (rows table sets labels : List ℕ) (z r n : ℕ) where
  pub walking_start : n ≡ row_count rows → Walking rows table sets labels z r n 0
  walking_start en = record { count = en; walk = walk_start }

  module _ (from : ℕ) (p : Walking rows table sets labels z r n from) where
    pub walking-step : (k x : ℕ) → MemberAt n labels z from k → NoneOver rows table sets labels k r → x ≡ k + 1 → Walking rows table sets labels z r n x
    walking-step k x m o ex =
        record { count = p.count; walk = walk_step p.walk (subst (λ (v : ℕ). MemberAt v labels z from k) p.count m) o.none ex }

    pub walking-none : NoMember n labels z from → NoneOverLabel rows table sets labels z r
    walking-none m =
        record { none = λ a t i e j o q. walk-done p.walk (subst (λ (v : ℕ). NoMember v labels z from) p.count m) a i e t j o q }

    pub walking-inside : (k : ℕ) → MemberAt n labels z from k → k < row_count rows
    walking-inside k m = omega (arith, m.inside, p.count)

    pub walking-space : (work : List ℕ) → Space (row_count rows) labels work → Space n labels work
    walking-space work s = subst (λ (v : ℕ). Space v labels work) (sym p.count) s

    pub walking-laid : (work : List ℕ) → Labelled (row_count rows) labels work → Labelled n labels work
    walking-laid work s = subst (λ (v : ℕ). Labelled v labels work) (sym p.count) s

    pub walking-own : Own (row_count rows) labels z → Own n labels z
    walking-own o = subst (λ (v : ℕ). Own v labels z) (sym p.count) o

-- ---- among all rows

map-empty : (f g : ℕ → ℕ) (l m : List ℕ) → length l ≡ 0 → map f l ≡ map f m → map g l ≡ map g m
map-empty f g [] [] h e = refl
map-empty f g [] (y ∷ m) h e = absurd (let z : ◌≡◌ {A = ℕ} 0 1 = cc in omega arith)
map-empty f g (x ∷ l) m h e = absurd (omega arith)

map_first : (f : ℕ → ℕ) (l m : List ℕ) → 0 < length l → map f l ≡ map f m → (0 < length m) × (f (get_or l 0 0) ≡ f (get_or m 0 0))
map_first f [] m h e = absurd (omega arith)
map_first f (x ∷ l) [] h e = absurd (let z : ◌≡◌ {A = ℕ} 0 1 = cc in omega arith)
map_first f (x ∷ l) (y ∷ m) h e = (omega arith, cc)

module _ (rows : List ℕ) (r : ℕ) (laid : Laid rows) (hr : r < row_count rows) where
  arguments : arg_count (rows_of rows) r ≡ count_in rows r
  arguments = ap (λ (x : Row). length x.args) (rows-at rows r hr) ∙ row-length rows r hr (laid.few r hr)

  argument-inside : (t : ℕ) → t < row_count rows → 0 < arg_count (rows_of rows) t → arg_of (rows_of rows) t 0 < row_count rows
  argument-inside t h l = omega (arith, below_at t (row_at (rows_of rows) t).args (laid.ordered t (omega (arith, length-rows rows))) 0 l)

  first-argument : 0 < count_in rows r → arg_in rows r 0 ≡ arg_of (rows_of rows) r 0
  first-argument h = sym (ap (λ (x : Row). get_or x.args 0 0) (rows-at rows r hr) ∙ arg-at rows (r * row_size + 2) (count_in rows r) 0 h (laid.few r hr))

  module _ (table labels : List ℕ) (d z : ℕ) (ed : d ≡ count_in rows r) (some : d ≡ 0 → ⊥) (inside : Inside (row_count rows) table) (ez : z ≡ label_by table labels (arg_in rows r 0)) where
    pub mate-label : (work : List ℕ) → Labelled (row_count rows) labels work → Own (row_count rows) labels z
    mate-label work l = rw ez (record { inside = omega (arith, l.low (rep_at table (arg_in rows r 0)) there, there); own = l.own (rep_at table (arg_in rows r 0)) there })
      where
        there : rep_at table (arg_in rows r 0) < row_count rows
        there = inside.each (arg_in rows r 0) (rw (first-argument (omega (arith, some))) (argument-inside r hr (omega (arith, arguments, some))))

  module _ (table sets labels : List ℕ) where
    pub mate-empty : (d : ℕ) → d ≡ count_in rows r → d ≡ 0 → NoMate rows table sets labels r
    mate-empty d ed e = record { none = λ said ready t h q. ap (rep_at labels) (one said ready t h q) }
      where
        one : (said : List ℕ) → Ready rows said table sets → (t : ℕ) → t < row_count rows → agree_by (label_by table labels) (rows_of rows) r t ≡ true → rep_at table r ≡ rep_at table t
        one said ready t h q =
            (representatives-closed (context_of rows said) ready.fit (rep_at table) ready.classes).alike r t (omega (arith, length-rows rows)) (omega (arith, length-rows rows))
            (agree_by-true (label_by table labels) (rows_of rows) r t q).0
            (map-empty (label_by table labels) (rep_at table) (row_at (rows_of rows) r).args (row_at (rows_of rows) t).args (omega (arith, arguments)) (agree_by-true (label_by table labels) (rows_of rows) r t q).1)

    module _ (d z : ℕ) (ed : d ≡ count_in rows r) (some : d ≡ 0 → ⊥) (inside : Inside (row_count rows) table) (ez : z ≡ label_by table labels (arg_in rows r 0)) where
      many : 0 < count_in rows r
      many = omega (arith, some)

      none : NoneOverLabel rows table sets labels z r → NoMate rows table sets labels r
      none o = record { none = go }
        where
          go : (said : List ℕ) → Ready rows said table sets → (t : ℕ) → t < row_count rows
              → agree_by (label_by table labels) (rows_of rows) r t ≡ true → label_by table labels r ≡ label_by table labels t
          go said ready t h q =
              let w : (0 < arg_count (rows_of rows) t) × (label_by table labels (arg_of (rows_of rows) r 0) ≡ label_by table labels (arg_of (rows_of rows) t 0)) =
              map_first (label_by table labels) (row_at (rows_of rows) r).args (row_at (rows_of rows) t).args (omega (arith, arguments, many)) (agree_by-true (label_by table labels) (rows_of rows) r t q).1 in
              o.none (rep_at table (arg_of (rows_of rows) t 0)) t (inside.each _ (argument-inside t h w.0))
              (sym w.1 ∙ ap (label_by table labels) (sym (first-argument many)) ∙ sym ez)
              h
              (ready.prepared.over.each t 0 (omega (arith, length-rows rows)) w.0)
              q

      pub mate-over : (s : Option ℕ) → OverLabel rows table sets labels z r s → Mate rows table sets labels r s
      mate-over None o = none o
      mate-over (Some s) o = o

pub ruleset mine = (
  rules,
  differs-same,
  differs-agree,
  class-less,
  member-less,
  seek-room,
  seek-few,
  passing-start,
  passing-inside,
  passing_step,
  passing-found,
  passing-none,
  walking_start,
  walking-step,
  walking-none,
  walking-inside,
  walking-space,
  walking-laid,
  walking-own,
  mate-empty,
  mate-label,
  mate-over,
)
