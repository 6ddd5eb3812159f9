-- Labels of classes: which are kept apart, which rows are marked, and how one gives way to another.
--     set_room, set-small               a set's words in a run, and where they begin
--     Parting, Clearing                 members that were looked at are not kept apart
--     Marking, Relabelling              members whose rows are marked, and members that have their new label
--     Weighing                          the rows over a class counted
--     meets-space .. meets-less         what two labels ask
--     lower-joined, joined-turned       two labels made one, either way round
--     meeting-clash, meeting-joined     or members kept apart
-- Assumes nothing.
use mathlib.Core.Bool.{Bool, true, false, ◌||◌}
use mathlib.Core.List.{List}
use mathlib.Core.Path.{◌≡◌, refl, ap, sym, ◌∙◌, subst}
use mathlib.Core.Logic.{◌⊎◌, inl, inr, ⊎_elim}
use Prim.Native.Nat.{ℕ, ◌+◌, ◌*◌, ◌/◌, ◌%◌, ◌≤◌, ◌<◌}
use native.Mathlib.Nat.{mul-le-mul, mul-le-mul_right}
use native.Mathlib.Omega.{arith}
use native.Mathlib.Decide.{dec_lt, ℕ_discrete}
use borrow.Author.Rules.{rules}
use borrow.Author.Tests.{eq-eqb}
use lib.Dec.{eqb}
use lib.ListN.{length, set, length-set}
use lib.Seq.{get_or-set_same, get_or-set_other}
use Rattle.meaning.specs.Equality.{rep_at}
use Rattle.meaning.specs.Closing.{move}
use Rattle.meaning.proofs.Logic.{false-true, or_left, or_right}
use Rattle.meaning.proofs.Progress.{move-cases}
use Rattle.bits.specs.Sets.{size, bit_at, has, United}
use Rattle.bits.proofs.Words.{either-has, has_on}
use Rattle.bits.proofs.Members.{size-most}
use Rattle.search_pairs.specs.Ready.{words_for, most_words, over_at, apart_at}
use Rattle.search_pairs.specs.Steps.{Space, Labelled, sets_size, marked_at, moved_at, ClassAt, NoClass, MemberAt, NoMember, Own, ApartFrom, Labels, Clashing, Marked, Moved, Joined, Meets, Meeting}
use Rattle.search_pairs.proofs.Members.{Walk, walk_start, walk_step, walk-done, class-less, member-less}

-- ---- where a set stands

pub set_room : (n s len : ℕ) → s ≤ n + n + n → sets_size n ≤ len → s * words_for n + words_for n ≤ len
set_room n s len h l = omega (arith, mul-le-mul_right {m = s + 1} {n = n + n + n + 1} (words_for n) (omega arith))

pub set-inside : (n s len base k : ℕ) → s ≤ n + n + n → sets_size n ≤ len → base ≡ s * words_for n → k < n → base + k / 64 < len
set-inside n s len base k h l e i = omega (arith, set_room n s len h l)

pub set-small : (n s w : ℕ) → words_for n ≤ most_words → s ≤ n + n + n → w ≡ words_for n → s * w ≤ 65536
set-small n s w few h e = let z : s * w ≤ 3072 * 16 = mul-le-mul {n₁ = s} {m₁ = w} {n₂ = 3072} {m₂ = 16} (omega arith) (omega arith) in omega arith

pub set-fits : (n s w : ℕ) → words_for n ≤ most_words → s ≤ n + n + n → w ≡ words_for n → s * w < 18446744073709551616
set-fits n s w few h e = omega (arith, set-small n s w few h e)

pub set-start : (n s w r : ℕ) → words_for n ≤ most_words → s ≤ n + n + n → w ≡ words_for n → r ≡ s * w → (r ≡ s * words_for n) × (r ≤ 65536)
set-start n s w r few h e q = (q ∙ ap (λ (v : ℕ). s * v) e, omega (arith, set-small n s w few h e))

-- ---- members kept apart

pub record Parting (n : ℕ) (sets labels : List ℕ) (a y base from : ℕ) : Type 0 where
  pub at : base ≡ (n + n + a) * words_for n
  pub walk : Walk n labels y (λ b. apart_at n sets a b ≡ false) from

module _ (n : ℕ) (sets labels : List ℕ) (a y base : ℕ) where
  pub parting-start : (base ≡ (n + n + a) * words_for n) × (base ≤ 65536) → Parting n sets labels a y base 0
  parting-start q = record { at = q.0; walk = walk_start }

  module _ (from k : ℕ) (p : Parting n sets labels a y base from) (m : MemberAt n labels y from k) where
    pub parting-inside : a < n → sets_size n ≤ length sets → base + k / 64 < length sets
    parting-inside e l = set-inside n (n + n + a) (length sets) base k (omega arith) l p.at m.inside

    module _ (b : Bool) (e : b ≡ has sets base k) where
      pub parting-step : (x : ℕ) → b ≡ false → x ≡ k + 1 → Parting n sets labels a y base x
      parting-step x f ex = record { at = p.at; walk = walk_step p.walk m (ap (λ (z : ℕ). has sets z k) (sym p.at) ∙ sym e ∙ f) ex }

      pub parting-found : b ≡ true → ApartFrom n sets labels a y true
      parting-found f =
          record { found = λ _. (k, m.inside, m.here, ap (λ (z : ℕ). has sets z k) (sym p.at) ∙ sym e ∙ f); clear = λ z. false-true refl z }

  pub parting-none : (from : ℕ) → Parting n sets labels a y base from → NoMember n labels y from → ApartFrom n sets labels a y false
  parting-none from p m = record { found = λ z. false-true z refl; clear = λ _. walk-done p.walk m }

pub record Clearing (n : ℕ) (sets labels : List ℕ) (x y from : ℕ) : Type 0 where
  pub walk : Walk n labels x (λ a. (b : ℕ) → b < n → rep_at labels b ≡ y → apart_at n sets a b ≡ false) from

module _ (n : ℕ) (sets labels : List ℕ) (x y : ℕ) where
  pub clearing-start : Clearing n sets labels x y 0
  clearing-start = record { walk = walk_start }

  module _ (from k : ℕ) (p : Clearing n sets labels x y from) (m : MemberAt n labels x from k) (b : Bool) (e : ApartFrom n sets labels k y b) where
    pub clearing-step : (z : ℕ) → b ≡ false → z ≡ k + 1 → Clearing n sets labels x y z
    clearing-step z f ez = record { walk = walk_step p.walk m (e.clear f) ez }

    pub clearing-found : b ≡ true → Clashing n sets labels x y true
    clearing-found f =
        record { found = λ _. let w : (b : ℕ) × (b < n) × (rep_at labels b ≡ y) × (apart_at n sets k b ≡ true) = e.found f in (k, w.0, m.inside, w.1, m.here, w.2, w.3); clear = λ z. false-true refl z }

  pub clearing-none : (from : ℕ) → Clearing n sets labels x y from → NoMember n labels x from → Clashing n sets labels x y false
  clearing-none from p m = record { found = λ z. false-true z refl; clear = λ _ a b i j e f. walk-done p.walk m a i e b j f }

-- ---- rows marked

module _ {old more new : List ℕ} {b w : ℕ} (u : United old more new 0 b w) where
  pub united-kept : (r : ℕ) → has old 0 r ≡ true → has new 0 r ≡ true
  unfolding has
  united-kept r e = go (dec_lt (r / 64) w)
    where
      go : Dec (r / 64 < w) → has new 0 r ≡ true
      go (yes h) = either-has w old more new 0 b 0 u.words r (omega arith) ∙ or_left (has old 0 r) (has more b r) e
      go (no h) = ap (λ (x : ℕ). bit_at x (r % 64)) (u.others (0 + r / 64) (inr (omega arith))) ∙ e

  pub united-new : (r : ℕ) → r < w * 64 → has more b r ≡ true → has new 0 r ≡ true
  united-new r h e = either-has w old more new 0 b 0 u.words r h ∙ or_right (has old 0 r) (has more b r) e

  pub united-other : (base a : ℕ) → w ≤ base → has new base a ≡ has old base a
  unfolding has
  united-other base a h = ap (λ (x : ℕ). bit_at x (a % 64)) (u.others (base + a / 64) (inr (omega arith)))

pub record Marking (n : ℕ) (sets labels : List ℕ) (z w : ℕ) (work₀ work : List ℕ) (from : ℕ) : Type 0 where
  pub laid : Labelled n labels work₀
  pub space : Space n labels work₀
  pub words : w ≡ words_for n
  pub long : length work ≡ length work₀
  pub kept : (r : ℕ) → marked_at work₀ r ≡ true → marked_at work r ≡ true
  pub others : (a : ℕ) → moved_at n work a ≡ moved_at n work₀ a
  pub walk : Walk n labels z (λ a. (r : ℕ) → r < n → over_at n sets a r ≡ true → marked_at work r ≡ true) from

module _ (n : ℕ) (sets labels : List ℕ) (z w : ℕ) (work₀ : List ℕ) where
  pub marking-start : Labelled n labels work₀ → Space n labels work₀ → w ≡ words_for n → Marking n sets labels z w work₀ work₀ 0
  marking-start laid space q = record { laid = laid; space = space; words = q; long = refl; kept = λ r m. m; others = λ a. refl; walk = walk_start }

  module _ (work : List ℕ) (from : ℕ) (p : Marking n sets labels z w work₀ work from) where
    pub marking-space : Space n labels work
    marking-space = record { few = p.space.few; labels-long = p.space.labels-long; work-long = p.long ∙ p.space.work-long }

    pub marking-laid : Labelled n labels work
    marking-laid = record { low = p.laid.low; own = p.laid.own; moved = λ a h. ⊎_elim (λ e. inl e) (λ e. inr (p.others a ∙ e)) (p.laid.moved a h) }

    module _ (k b : ℕ) (m : MemberAt n labels z from k) (eb : (b ≡ k * words_for n) × (b ≤ 65536)) where
      pub marking-room : sets_size n ≤ length sets → (0 + w ≤ length work) × (b + w ≤ length sets)
      marking-room l = (omega (arith, p.space.work-long, p.long, p.words), omega (arith, set_room n k (length sets) (omega (arith, m.inside)) l, eb.0, p.words))

      pub marking_step : (work' : List ℕ) (x : ℕ) → United work sets work' 0 b w → x ≡ k + 1 → Marking n sets labels z w work₀ work' x
      marking_step work' x u ex =
          record {
            laid = p.laid;
            space = p.space;
            words = p.words;
            long = u.long ∙ p.long;
            kept = λ s y. united-kept u s (p.kept s y);
            others = λ a. united-other u (words_for n) a (omega (arith, p.words)) ∙ p.others a;
            walk = walk_step before m fresh ex;
          }
        where
          before : Walk n labels z (λ a. (r : ℕ) → r < n → over_at n sets a r ≡ true → marked_at work' r ≡ true) from
          before = record { seen = λ a l i q s y o. united-kept u s (p.walk.seen a l i q s y o) }

          fresh : (s : ℕ) → s < n → over_at n sets k s ≡ true → marked_at work' s ≡ true
          fresh s y o = united-new u s (omega (arith, p.words)) (ap (λ (v : ℕ). has sets v s) eb.0 ∙ o)

    pub marking-done : NoMember n labels z from → Marked n sets labels z work₀ work
    marking-done m =
        record { long = p.long; kept = p.kept; reached = λ a r i j e o. walk-done p.walk m a i e r j o; others = p.others }

-- ---- a label gives way

-- a class has its label after the change; or it is still to be looked at
pub record Relabelling (n lo hi w : ℕ) (labels₀ labels work : List ℕ) (from : ℕ) : Type 0 where
  pub words : w ≡ words_for n
  pub long : length labels ≡ length labels₀
  pub each : (a : ℕ) → a < n → (rep_at labels a ≡ move lo hi (rep_at labels₀ a)) ⊎ ((rep_at labels a ≡ rep_at labels₀ a) × (from ≤ a) × (a ≡ hi → ⊥))

move-other : (lo hi x : ℕ) → (x ≡ hi → ⊥) → move lo hi x ≡ x
move-other lo hi x h = ⊎_elim (λ w. absurd (h w.0)) (λ w. w.1) (move-cases lo hi x)

move-here : (lo hi x : ℕ) → x ≡ hi → move lo hi x ≡ lo
move-here lo hi x h = ⊎_elim (λ w. w.1) (λ w. absurd (w.0 h)) (move-cases lo hi x)

move-twice : (lo hi x : ℕ) → lo < hi → move lo hi (move lo hi x) ≡ move lo hi x
move-twice lo hi x h =
    ⊎_elim (λ c. ap (move lo hi) c.1 ∙ move-other lo hi lo (λ e. omega arith) ∙ sym c.1) (λ c. ap (move lo hi) c.1) (move-cases lo hi x)

pub moved-here : (lo hi x l : ℕ) → x ≡ l → x ≡ hi → lo ≡ move lo hi l
moved-here lo hi x l e q = sym (move-here lo hi l (sym e ∙ q))

pub moved-other : (lo hi x l : ℕ) → x ≡ l → (x ≡ hi → ⊥) → l ≡ move lo hi l
moved-other lo hi x l e q = sym (move-other lo hi l (λ z. q (e ∙ z)))

module _ (n lo hi w : ℕ) (labels₀ work : List ℕ) (laid : Labelled n labels₀ work) (space : Space n labels₀ work) (h : lo < hi) (o : Own n labels₀ hi) where
  pub relabelling-start : (v : ℕ) → v ≡ lo → w ≡ words_for n → Relabelling n lo hi w labels₀ (set labels₀ hi v) work (hi + 1)
  relabelling-start v ev ew = record { words = ew; long = length-set labels₀ hi v; each = λ a i. go a i (ℕ_discrete a hi) (dec_lt a hi) }
    where
      go : (a : ℕ) → a < n → Dec (a ≡ hi) → Dec (a < hi)
          → (rep_at (set labels₀ hi v) a ≡ move lo hi (rep_at labels₀ a)) ⊎ ((rep_at (set labels₀ hi v) a ≡ rep_at labels₀ a) × (hi + 1 ≤ a) × (a ≡ hi → ⊥))
      go a i (yes d) l =
          inl (rw d (get_or-set_same labels₀ hi v 0 (omega (arith, o.inside, space.labels-long)) ∙ ev ∙ sym (move-here lo hi (rep_at labels₀ hi) o.own)))
      go a i (no d) (yes l) =
          inl (get_or-set_other labels₀ hi a v 0 d ∙ sym (move-other lo hi (rep_at labels₀ a) (λ e. omega (arith, e, laid.low a i))))
      go a i (no d) (no l) = inr (get_or-set_other labels₀ hi a v 0 d, omega arith, d)

  module _ (labels : List ℕ) (from : ℕ) (p : Relabelling n lo hi w labels₀ labels work from) where
    -- a class that is not known keeps its label, which is its own
    stays : (a : ℕ) → a < n → has work w a ≡ false → (a ≡ hi → ⊥) → rep_at labels a ≡ rep_at labels₀ a → rep_at labels a ≡ move lo hi (rep_at labels₀ a)
    stays a i f d e =
        ⊎_elim (λ q. e ∙ sym (move-other lo hi (rep_at labels₀ a) (λ z. d (sym q ∙ z)))) (λ v. false-true (ap (λ (x : ℕ). has work x a) p.words ∙ v) f) (laid.moved a i)

    module _ (k : ℕ) (c : ClassAt n work w from k) where
      pub relabelling-inside : k < length labels
      relabelling-inside = omega (arith, c.inside, space.labels-long, p.long)

      pub relabelling-step : (v x : ℕ) → v ≡ move lo hi (rep_at labels k) → x ≡ k + 1 → Relabelling n lo hi w labels₀ (set labels k v) work x
      relabelling-step v x ev ex = record { words = p.words; long = length-set labels k v ∙ p.long; each = λ a i. go a i (p.each a i) (ℕ_discrete a k) (dec_lt a k) }
        where
          go : (a : ℕ) → a < n → (rep_at labels a ≡ move lo hi (rep_at labels₀ a)) ⊎ ((rep_at labels a ≡ rep_at labels₀ a) × (from ≤ a) × (a ≡ hi → ⊥)) → Dec (a ≡ k) → Dec (a < k)
              → (rep_at (set labels k v) a ≡ move lo hi (rep_at labels₀ a)) ⊎ ((rep_at (set labels k v) a ≡ rep_at labels₀ a) × (x ≤ a) × (a ≡ hi → ⊥))
          go a i (inl e) (yes d) l =
              inl (rw d (get_or-set_same labels k v 0 relabelling-inside ∙ ev ∙ ap (move lo hi) (rw d at e) ∙ move-twice lo hi (rep_at labels₀ k) h))
          go a i (inr e) (yes d) l = inl (rw d (get_or-set_same labels k v 0 relabelling-inside ∙ ev ∙ ap (move lo hi) (rw d at e.0)))
          go a i (inl e) (no d) l = inl (get_or-set_other labels k a v 0 d ∙ e)
          go a i (inr e) (no d) (yes l) =
              inl (get_or-set_other labels k a v 0 d ∙ stays a i (c.first a e.1 l) e.2 e.0)
          go a i (inr e) (no d) (no l) = inr (get_or-set_other labels k a v 0 d ∙ e.0, omega arith, e.2)

    pub relabelling-done : NoClass n work w from → Moved n lo hi labels₀ labels
    relabelling-done c = record { long = p.long; so = λ a i. ⊎_elim (λ e. e) (λ e. stays a i (c.none a e.1 i) e.2 e.0) (p.each a i) }

  pub label_small : lo < 65536
  label_small = omega (arith, space.few, o.inside)

  pub relabelling-room : w ≡ words_for n → w + words_for n ≤ length work
  relabelling-room e = omega (arith, space.work-long)

  pub relabelling-hi : hi < length labels₀
  relabelling-hi = omega (arith, o.inside, space.labels-long)

-- ---- how many rows are over a class

pub record Weighing (n a w base sum i : ℕ) : Type 0 where
  pub words : w ≡ words_for n
  pub most : sum ≤ i * 64
  pub few : i ≤ w
  pub at : base ≡ a * words_for n

module _ (n a w base sum i : ℕ) where
  pub weighing-start : w ≡ words_for n → (base ≡ a * words_for n) × (base ≤ 65536) → sum ≡ 0 → i ≡ 0 → Weighing n a w base sum i
  weighing-start e b s q = record { words = e; most = omega arith; few = omega arith; at = b.0 }

  pub weighing-inside : (len : ℕ) → Weighing n a w base sum i → sets_size n ≤ len → a < n → i < w → base + i < len
  weighing-inside len p l h q = omega (arith, set_room n a len (omega arith) l, p.at, p.words)

  pub weighing-fits : (x y : ℕ) → Weighing n a w base sum i → words_for n ≤ most_words → i < w → x ≡ size 64 (bit_at y) → sum + x < 4294967296
  weighing-fits x y p few h e = omega (arith, p.most, p.words, size-most 64 (bit_at y))

  pub weighing-step : (x y t j : ℕ) → Weighing n a w base sum i → i < w → x ≡ size 64 (bit_at y) → t ≡ sum + x → j ≡ i + 1 → Weighing n a w base t j
  weighing-step x y t j p h e et ej = record { words = p.words; most = omega (arith, p.most, size-most 64 (bit_at y)); few = omega arith; at = p.at }

-- ---- two labels made one

-- a class put among those whose label is another one's
module _ (n : ℕ) (work work' : List ℕ) (hi : ℕ) (put : (length work' ≡ length work) × ((j : ℕ) → has work' 0 j ≡ (has work 0 j || eqb j (words_for n * 64 + hi)))) where
  known_kept : (r : ℕ) → marked_at work r ≡ true → marked_at work' r ≡ true
  known_kept r e = put.1 r ∙ or_left (has work 0 r) _ e

  flat : (v : List ℕ) (a : ℕ) → moved_at n v a ≡ has v 0 (words_for n * 64 + a)
  flat v a = ap (λ (b : ℕ). has v b a) (omega arith) ∙ has_on v 0 (words_for n) a

  known-others : (a : ℕ) → moved_at n work a ≡ true → moved_at n work' a ≡ true
  known-others a e = flat work' a ∙ known_kept (words_for n * 64 + a) (sym (flat work a) ∙ e)

  known-here : moved_at n work' hi ≡ true
  known-here = flat work' hi ∙ put.1 (words_for n * 64 + hi) ∙ or_right (has work 0 (words_for n * 64 + hi)) _ (eq-eqb (words_for n * 64 + hi) (words_for n * 64 + hi) refl)

pub lower-picked : (n : ℕ) (labels : List ℕ) (lo hi z : ℕ) → Labels n labels lo hi → (z ≡ lo) ⊎ (z ≡ hi) → Own n labels z
lower-picked n labels lo hi z l (inl e) = rw e (record { inside = l.left; own = l.left-own })
lower-picked n labels lo hi z l (inr e) = rw e (record { inside = l.right; own = l.right-own })

pub labels_left : (n : ℕ) (labels : List ℕ) (x y : ℕ) → Labels n labels x y → Own n labels x
labels_left n labels x y l = record { inside = l.left; own = l.left-own }

pub labels_right : (n : ℕ) (labels : List ℕ) (x y : ℕ) → Labels n labels x y → Own n labels y
labels_right n labels x y l = record { inside = l.right; own = l.right-own }

module _ (n : ℕ) (sets labels work : List ℕ) (z : ℕ) where
  pub lower-space : (work' : List ℕ) → Space n labels work → Marked n sets labels z work work' → Space n labels work'
  lower-space work' s m = record { few = s.few; labels-long = s.labels-long; work-long = m.long ∙ s.work-long }

  pub lower-laid : (work' : List ℕ) → Labelled n labels work → Marked n sets labels z work work' → Labelled n labels work'
  lower-laid work' l m = record { low = l.low; own = l.own; moved = λ a h. ⊎_elim (λ e. inl e) (λ e. inr (m.others a ∙ e)) (l.moved a h) }

module _ (n : ℕ) (sets labels work : List ℕ) (lo hi z : ℕ) where
  pub lower-joined : (work₁ labels' work' : List ℕ) (k w : ℕ) → lo < hi → (z ≡ lo) ⊎ (z ≡ hi) → Marked n sets labels z work work₁ → Moved n lo hi labels labels'
      → w ≡ words_for n → k ≡ w * 64 + hi → (length work' ≡ length work₁) × ((j : ℕ) → has work' 0 j ≡ (has work₁ 0 j || eqb j k)) → Joined n sets lo hi labels work labels' work'
  lower-joined work₁ labels' work' k w h o m v ew ek put =
      record {
        lo = lo;
        hi = hi;
        picked = z;
        two = inl (refl, refl);
        less = h;
        one = o;
        moves = v;
        long = put.0 ∙ m.long;
        kept = λ r e. known_kept n work₁ work' hi there r (m.kept r e);
        reached = λ a r i j e q. known_kept n work₁ work' hi there r (m.reached a r i j e q);
        others = λ a e. known-others n work₁ work' hi there a (m.others a ∙ e);
        known = known-here n work₁ work' hi there;
      }
    where
      there : (length work' ≡ length work₁) × ((j : ℕ) → has work' 0 j ≡ (has work₁ 0 j || eqb j (words_for n * 64 + hi)))
      there = (put.0, λ j. put.1 j ∙ ap (λ (v : ℕ). has work₁ 0 j || eqb j v) (ek ∙ ap (λ (v : ℕ). v * 64 + hi) ew))

-- what two labels ask
module _ (n : ℕ) (sets labels work : List ℕ) (x y : ℕ) (w : Meets n sets labels work x y) where
  pub meets-space : Space n labels work
  meets-space = w.space

  pub meets-laid : Labelled n labels work
  meets-laid = w.laid

  pub meets-labels : Labels n labels x y
  meets-labels = w.labels-there

  pub meets-turned : Labels n labels y x
  meets-turned = record { left = w.labels-there.right; right = w.labels-there.left; left-own = w.labels-there.right-own; right-own = w.labels-there.left-own }

  pub meets-room : sets_size n ≤ length sets
  meets-room = w.room

  pub meets-less : y ≤ x → y < x
  meets-less h = go (ℕ_discrete y x)
    where
      go : Dec (y ≡ x) → y < x
      go (yes e) = absurd (w.other (sym e))
      go (no d) = omega arith

-- either way round
pub joined-turned : (n : ℕ) (sets : List ℕ) (x y : ℕ) (labels work labels' work' : List ℕ) → Joined n sets y x labels work labels' work' → Joined n sets x y labels work labels' work'
joined-turned n sets x y labels work labels' work' j =
    record {
      lo = j.lo;
      hi = j.hi;
      picked = j.picked;
      two = ⊎_elim (λ w. inr (w.1, w.0)) (λ w. inl (w.1, w.0)) j.two;
      less = j.less;
      one = j.one;
      moves = j.moves;
      long = j.long;
      kept = j.kept;
      reached = j.reached;
      others = j.others;
      known = j.known;
    }

module _ (n : ℕ) (sets : List ℕ) (x y : ℕ) (labels work : List ℕ) where
  pub meeting-clash : (b : Bool) → Clashing n sets labels x y b → b ≡ true → Meeting n sets x y labels work labels work true
  meeting-clash b k e =
      record {
        clash = λ _. subst (Clashing n sets labels x y) e k;
        labels-kept = λ _. refl;
        work-kept = λ _. refl;
        clear = λ z. false-true refl z;
        joined = λ z. false-true refl z;
      }

  pub meeting-joined : (b : Bool) (labels' work' : List ℕ) → Clashing n sets labels x y b → b ≡ false → Joined n sets x y labels work labels' work' → Meeting n sets x y labels work labels' work' false
  meeting-joined b labels' work' k e j =
      record {
        clash = λ z. false-true z refl;
        labels-kept = λ z. false-true z refl;
        work-kept = λ z. false-true z refl;
        clear = λ _. subst (Clashing n sets labels x y) e k;
        joined = λ _. j;
      }

pub ruleset joins = (rules, weighing-start, weighing-inside, weighing-fits, weighing-step, lower-picked, labels_right, lower-space, lower-laid, lower-joined, meets-space, meets-laid, meets-labels, meets-turned, meets-room, meets-less, joined-turned, meeting-clash, meeting-joined)

pub ruleset mine = (
  rules,
  set-inside,
  set-start,
  set-fits,
  class-less,
  member-less,
  labels_left,
  labels_right,
  parting-start,
  parting-inside,
  parting-step,
  parting-found,
  parting-none,
  clearing-start,
  clearing-step,
  clearing-found,
  clearing-none,
  marking-start,
  marking-space,
  marking-laid,
  marking-room,
  marking_step,
  marking-done,
  moved-here,
  moved-other,
  relabelling-start,
  relabelling-inside,
  relabelling-step,
  relabelling-done,
  label_small,
  relabelling-room,
  relabelling-hi,
)
