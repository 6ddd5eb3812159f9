-- The whole text: where its three parts go, and what the writer leaves.
--     text-put, text-fits, text-short    the three parts make the text; what stands in the lent space then, and where it is too short
--     mine                               what the functions that write the whole leave to show
-- Assumes nothing.
use mathlib.Core.List.{List, ◌++◌}
use mathlib.Core.Path.{◌≡◌, sym, ap, ◌∙◌}
use Prim.Native.Nat.{ℕ, ◌+◌, ◌*◌, ◌≤◌, ◌<◌}
use native.Mathlib.Omega.{arith}
use borrow.Author.Rules.{rules}
use lib.ListN.{length, take, length-append}
use lib.Seq.{length-take-le}
use Rattle.meaning.specs.Replies.{Leaves, fits, short, normal, wrote, unwritten, refusal}
use Rattle.runs.specs.Limits.{most_statements}
use Rattle.runs.specs.Runs.{row_count}
use Rattle.runs.specs.Fit.{Every, NamedAt}
use Rattle.reply_lines.specs.Pieces.{Room, Put}
use Rattle.normaliser.specs.Pieces.{row_lines, join_lines, key_lines}
use Rattle.normaliser.specs.Rooms.{pair_length, rows_size, joins_size, RowsFit, JoinsRoom}
use Rattle.normaliser.specs.Keyed.{Keyable, KeysIn}
use Rattle.normaliser.specs.Normals.{normal_text, text_of, text_size, Writable, SpacesFit, TextRoom}
use Rattle.reply_lines.proofs.Stores.{put_then, put-length, put_whole}
use Rattle.normaliser.proofs.Texts.{writable-rows, writable-named, text-pieces, length-text}

module _ {rows table keys lent : List ℕ} (t : TextRoom rows table keys lent) where
  fill : length (row_lines rows) + (length (join_lines table (row_count rows)) + length (key_lines keys)) ≤ length lent
  fill =
      omega (
        arith,
        t.room.fits,
        length-append (row_lines rows) (join_lines table (row_count rows) ++ key_lines keys),
        length-append (join_lines table (row_count rows)) (key_lines keys),
      )

  pub rows-fitting : RowsFit rows
  rows-fitting = t.rows_fit

  pub rows-first : Room lent 0 (row_lines rows)
  rows-first = record { fits = omega (arith, fill) }

  module _ {a n : ℕ} {one : List ℕ} (p : Put lent 0 (row_lines rows) a one) (e : n ≡ row_count rows) where
    pub joins-next : JoinsRoom table n one a
    joins-next =
        rw e (record { few = t.rows_fit.few; tabled = t.tabled; room = record { fits = omega (arith, fill, p.place, put-length p) } })

    module _ {b : ℕ} {two : List ℕ} (q : Put one a (join_lines table n) b two) where
      q' : Put one a (join_lines table (row_count rows)) b two
      q' = rw e at q

      pub keys-last : Room two b (key_lines keys)
      keys-last = record { fits = omega (arith, fill, p.place, q'.place, put-length p, put-length q') }

      pub text-put : {c : ℕ} {three : List ℕ} → Put two b (key_lines keys) c three → Put lent 0 (text_of rows table keys) c three
      text-put r = put_then p (put_then q' r)

module _ {rows said table : List ℕ} (w : Writable rows said table) where
  pub writable-fit : RowsFit rows
  writable-fit = writable-rows rows said table w

  pub writable-long : row_count rows ≤ length table
  writable-long = w.tabled.long

  module _ {keys spare : List ℕ} (s : SpacesFit said keys spare) where
    pub writable-keyable : Keyable said table (length keys)
    writable-keyable =
        let n : Every _ (NamedAt said (row_count rows)) = writable-named rows said table w in
        record {
          named = record {
            each = λ k h. record {
              left = omega (arith, (n.each k h).left, w.tabled.long);
              right = omega (arith, (n.each k h).right, w.tabled.long);
            };
          };
          room = s.keys-fit;
        }

    -- the keys are sorted at the front of their space
    module _ {places : List ℕ} {n : ℕ} (k : KeysIn said table places n) where
      pub keys-few : n ≤ most_statements
      keys-few = omega (arith, k.small, w.fit.said-few)

      module _ (l : length places ≡ length keys) where
        pub keys-inside : n ≤ length places
        keys-inside = omega (arith, k.small, s.keys-fit)

        pub keys-counted : n ≡ length (take n places)
        keys-counted = sym (length-take-le n places keys-inside)

        -- and the text has so many bytes
        module _ {size : ℕ} (e : size ≡ text_size rows table n) where
          sized : length (text_of rows table (take n places)) ≡ size
          sized = length-text rows table (take n places) writable-fit ∙ ap (text_size rows table) (sym keys-counted) ∙ sym e

          pub text-room : {lent : List ℕ} → size ≤ length lent → TextRoom rows table (take n places) lent
          text-room h = record { rows_fit = writable-fit; tabled = w.tabled; room = record { fits = omega (arith, sized) } }

          pub text-short : {lent : List ℕ} → length lent < size → Leaves lent (normal (normal_text rows said table)) (unwritten (refusal 10 0)) lent
          text-short h = rw (text-pieces rows said table w places n k) (short (text_of rows table (take n places)) (omega (arith, sized)))

          pub text-fits : {next : ℕ} {lent after : List ℕ} → size ≤ length lent → Put lent 0 (text_of rows table (take n places)) next after
              → Leaves lent (normal (normal_text rows said table)) (wrote size) after
          text-fits h p =
              rw (text-pieces rows said table w places n k, ← sized, put_whole p (omega (arith, sized)))
              (fits (text_of rows table (take n places)) (omega (arith, sized)))

pub text-sized : (rows table : List ℕ) (n a b k : ℕ) → a ≡ rows_size rows (row_count rows) → n ≡ row_count rows → b ≡ joins_size table n
    → a + (b + k * pair_length) ≡ text_size rows table k
text-sized rows table n a b k e f g = rw (e, g, f)

pub ruleset mine = (
  rules,
  text-sized,
  rows-fitting,
  rows-first,
  joins-next,
  keys-last,
  text-put,
  writable-fit,
  writable-long,
  writable-keyable,
  keys-few,
  keys-inside,
  keys-counted,
  text-room,
  text-short,
  text-fits,
)
