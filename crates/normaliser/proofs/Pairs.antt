-- The lines of equations between representatives and rows, and of differences.
--     length-joins, length-keys    how long the lines are together
--     mine                         what the functions that write them leave to show
-- Assumes nothing.
use mathlib.Core.Bool.{Bool, true, false}
use mathlib.Core.List.{List, [], ◌∷◌, ◌++◌}
use mathlib.Core.Path.{◌≡◌, refl, sym, ap, ap₂, ◌∙◌, subst}
use Prim.Native.Nat.{ℕ, zero, suc, ◌+◌, ◌*◌, ◌/◌, ◌%◌, ◌≤◌, ◌<◌}
use native.Mathlib.Nat.{mod-eq_of_lt}
use native.Mathlib.Numerals.{add-one}
use native.Mathlib.Omega.{arith}
use borrow.Author.Rules.{rules}
use borrow.Author.Tests.{eq-eqb, ne_eqb}
use lib.Dec.{eqb}
use lib.ListN.{length, get_or, take, length-append}
use Rattle.meaning.specs.Equality.{rep_at}
use Rattle.meaning.specs.Writing.{frame}
use Rattle.runs.specs.Limits.{most_rows}
use Rattle.reply_lines.specs.Pieces.{low8, Room, Put, LineRoom, run}
use Rattle.normaliser.specs.Keyed.{key_base}
use Rattle.normaliser.specs.Pieces.{join_piece, key_line, key_piece, key_lines}
use Rattle.normaliser.specs.Rooms.{pair_fields, pair_length, join_size, joins_size, JoinRoom, JoinsRoom}
use Rattle.reply_lines.proofs.Lines.{length-frame}
use Rattle.reply_lines.proofs.Running.{Running, running-start, running-room, running-step, running-done, run-snoc}
use Rattle.normaliser.proofs.Rows.{Sizing}

-- ---- an equation, where there is one

own-piece : (table : List ℕ) (i : ℕ) → rep_at table i ≡ i → join_piece table i ≡ []
unfolding join_piece
own-piece table i e = rw (join_piece, eq-eqb (rep_at table i) i e)

other-piece : (table : List ℕ) (i : ℕ) → (rep_at table i ≡ i → ⊥) → join_piece table i ≡ frame (2 ∷ rep_at table i ∷ i ∷ [])
unfolding join_piece
other-piece table i e = rw (join_piece, ne_eqb (rep_at table i) i e)

pub join-none : (table lent : List ℕ) (i at w : ℕ) → w ≡ rep_at table i → w ≡ i → Put lent at (join_piece table i) at lent
join-none table lent i at w e f = rw (own-piece table i (sym e ∙ f)) (record { place = omega arith; stored = refl })

pub join-room : {table lent : List ℕ} {i at w : ℕ} → JoinRoom table i lent at → w ≡ rep_at table i → (w ≡ i → ⊥) → LineRoom pair_fields at lent
join-room {table} {lent} {i} {at} r e f =
    record {
      few = omega arith;
      room = omega (arith, r.room.fits, ap length (other-piece table i (λ g. f (e ∙ g))), length-frame (2 ∷ rep_at table i ∷ i ∷ []));
    }

pub join-line : {table lent after : List ℕ} {i at w b c next : ℕ} → JoinRoom table i lent at → w ≡ rep_at table i → (w ≡ i → ⊥) → b ≡ low8 (rep_at table i) → c ≡ low8 i
    → Put lent at (frame (take 3 (2 ∷ b ∷ c ∷ 0 ∷ 0 ∷ 0 ∷ 0 ∷ 0 ∷ []))) next after → Put lent at (join_piece table i) next after
join-line {table} {lent} {after} {i} {at} {w} {b} {c} {next} r e f g q d =
    subst (λ (l : List ℕ). Put lent at l next after)
    (ap₂ (λ (k m : ℕ). frame (2 ∷ k ∷ m ∷ [])) (g ∙ mod-eq_of_lt (omega (arith, r.rep))) (q ∙ mod-eq_of_lt (omega (arith, r.low)))
    ∙ sym (other-piece table i (λ h. f (e ∙ h)))) d

pub joins-room : {table lent after : List ℕ} {n at i to : ℕ} → JoinsRoom table n lent at → Running (join_piece table) n lent at i to after → i < n
    → JoinRoom table i after to
joins-room {table} {lent} {after} {n} {at} {i} r f h = record { inside = omega (arith, r.tabled.long); low = omega (arith, r.few); rep = omega (arith, r.few, r.tabled.reps i h); room = running-room r.room f h }

-- ---- how long the equations are

pub join-zero : (table : List ℕ) (i w : ℕ) → w ≡ rep_at table i → w ≡ i → 0 ≡ join_size table i
unfolding join_size
join-zero table i w e f = rw (join_size, eq-eqb (rep_at table i) i (sym e ∙ f))

pub join-seven : (table : List ℕ) (i w : ℕ) → w ≡ rep_at table i → (w ≡ i → ⊥) → pair_length ≡ join_size table i
unfolding join_size
join-seven table i w e f = rw (join_size, ne_eqb (rep_at table i) i (λ g. f (e ∙ g)))

module _ (table : List ℕ) where
  pub sizing-joins-start : (n : ℕ) → Sizing (joins_size table) pair_length n 0 0
  unfolding joins_size
  sizing-joins-start n = record { within = omega arith; so = refl; small = omega arith }

  module _ {n i sum : ℕ} (s : Sizing (joins_size table) pair_length n i sum) where
    pub sizing-joins-small : n ≤ most_rows → sum ≤ most_rows * pair_length
    sizing-joins-small f = omega (arith, s.small, s.within)

    pub sizing-joins-step : {x : ℕ} → i < n → x ≡ join_size table i → x ≤ pair_length → Sizing (joins_size table) pair_length n (i + 1) (sum + x)
    unfolding joins_size
    sizing-joins-step h e l = record { within = omega arith; so = rw (add-one i, s.so, e); small = omega (arith, s.small) }

    pub sizing-joins-done : n ≤ i → sum ≡ joins_size table n
    sizing-joins-done h = let e : i ≡ n = omega (arith, s.within) in s.so ∙ ap (joins_size table) e

length-join : (table : List ℕ) (i : ℕ) → length (join_piece table i) ≡ join_size table i
unfolding join_piece join_size
length-join table i = go (eqb (rep_at table i) i) refl
  where
    go : (b : Bool) → eqb (rep_at table i) i ≡ b → length (join_piece table i) ≡ join_size table i
    go true e = rw (join_piece, join_size, e)
    go false e = rw (join_piece, join_size, e) (length-frame (2 ∷ rep_at table i ∷ i ∷ []))

pub length-joins : (table : List ℕ) (n : ℕ) → length (run (join_piece table) 0 n) ≡ joins_size table n
unfolding run joins_size
length-joins table zero = refl
length-joins table (suc n) =
    let e : 0 + n ≡ n = omega arith in
    ap length (run-snoc (join_piece table) 0 n ∙ ap (λ (k : ℕ). run (join_piece table) 0 n ++ join_piece table k) e)
    ∙ length-append (run (join_piece table) 0 n) (join_piece table n) ∙ omega (arith, length-joins table n, length-join table n)

-- ---- differences

length-key : (keys : List ℕ) (k : ℕ) → length (key_piece keys k) ≡ pair_length
unfolding key_piece
length-key keys k = length-frame (3 ∷ low8 (get_or keys k 0 / key_base) ∷ low8 (get_or keys k 0 % key_base) ∷ [])

pub length-keys : (keys : List ℕ) (n : ℕ) → length (run (key_piece keys) 0 n) ≡ n * pair_length
unfolding run
length-keys keys zero = refl
length-keys keys (suc n) =
    let e : 0 + n ≡ n = omega arith in
    ap length (run-snoc (key_piece keys) 0 n ∙ ap (λ (k : ℕ). run (key_piece keys) 0 n ++ key_piece keys k) e)
    ∙ length-append (run (key_piece keys) 0 n) (key_piece keys n) ∙ omega (arith, length-keys keys n, length-key keys n)

pub key-put : {lent after : List ℕ} {at next : ℕ} (key p q a b : ℕ) → p ≡ key / key_base → q ≡ key % key_base → a ≡ low8 p → b ≡ low8 q
    → Put lent at (frame (take 3 (3 ∷ a ∷ b ∷ 0 ∷ 0 ∷ 0 ∷ 0 ∷ 0 ∷ []))) next after → Put lent at (key_line key) next after
key-put key p q a b e f g h d = rw (g, h, e, f) at d

module _ (keys : List ℕ) {lent after : List ℕ} {n at k to : ℕ} (f : Running (key_piece keys) n lent at k to after) where
  pub keys-room : Room lent at (key_lines keys) → n ≡ length keys → k < n → LineRoom pair_fields to after
  keys-room r e h =
      let f' : Running (key_piece keys) (length keys) lent at k to after = rw e at f in
      record { few = omega arith; room = omega (arith, (running-room r f' (omega arith)).fits, length-key keys k) }

  pub keys_step : {made : List ℕ} {x next : ℕ} → k < n → x ≡ get_or keys k 0 → Put after to (key_line x) next made
      → Running (key_piece keys) n lent at (k + 1) next made
  unfolding key_piece
  keys_step h e d = running-step f h (rw e at d)

  pub keys-done : n ≡ length keys → n ≤ k → Put lent at (key_lines keys) to after
  keys-done e h = subst (λ (m : ℕ). Put lent at (run (key_piece keys) 0 m) to after) e (running-done f h)

pub ruleset mine = (
  rules,
  running-start,
  running-step,
  running-done,
  join-none,
  join-room,
  join-line,
  joins-room,
  join-zero,
  join-seven,
  sizing-joins-start,
  sizing-joins-small,
  sizing-joins-step,
  sizing-joins-done,
  key-put,
  keys-room,
  keys_step,
  keys-done,
)
