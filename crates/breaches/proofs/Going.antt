-- The list, piece by piece.
--     piece-fits, piece-runs              a piece's bytes stand in its space; they are the lines that come
--     Listed                              what was handed over so far, and what is to come from the state on, are all
--     listed_start, listed_next           nothing yet; a piece more
--     listed-done                         the list is done
--     turn-less                           a piece has room for a line, so fewer lines are left to be written
-- Assumes nothing.
use mathlib.Core.Bool.{Bool, true, false}
use mathlib.Core.List.{List, [], ◌++◌, append-nil, append_assoc}
use mathlib.Core.Path.{◌≡◌, refl, sym, ap, subst, ◌∙◌}
use Prim.Native.Nat.{ℕ, suc, ◌≤◌, ◌<◌}
use native.Mathlib.Omega.{arith}
use borrow.Author.Rules.{rules}
use lib.ListN.{length, take, drop, replicate, length-replicate}
use Rattle.meaning.specs.Context.{Context}
use Rattle.meaning.specs.Rules.{Clause}
use Rattle.listing.specs.declared.State.{State}
use Rattle.listing.specs.declared.State.TheVariants.{Start, After, Done}
use Rattle.listing.specs.declared.Filled.{Filled}
use Rattle.listing.specs.Filling.{done_by, Runs, Fills, Pieces, over, piece}
use Rattle.listing.proofs.Ending.{left_of, runs-falls}
use Rattle.listing.proofs.Output.{opened-lent}
use Rattle.channels.specs.declared.output.Taken.{Taken}
use Rattle.channels.specs.Sending.{none_taken, both_of, Counts}
use Rattle.channels.proofs.Fronts.{front_fits, front-taken}
use Rattle.channels.proofs.Sending.{counts-none, counts-both}
use Rattle.breaches.specs.Giving.{piece_room, Gives, ListedFrom}
use Rattle.breaches.proofs.Handing.{head-heads, head-whole}

module _ (c : Context) (t : List ℕ) (k : Clause) where
  -- ---- a piece

  module _ (s : State) (r : Filled) (after : List ℕ) (f : Fills c t k s (replicate piece_room 0) r after) where
    pub piece-fits : r.used ≤ length after
    piece-fits = front_fits f.bytes (drop (length f.bytes) (replicate piece_room 0)) after r.used f.used f.stored

    pub piece-runs : Runs c t k piece_room s (take r.used after) r.next
    piece-runs =
        let e : take r.used after ≡ f.bytes = front-taken f.bytes (drop (length f.bytes) (replicate piece_room 0)) after r.used f.used f.stored in
        rw (e, ← length-replicate {A = ℕ} piece_room 0) f.runs

  -- ---- the pieces

  abbrev pieces_at : ℕ → State → List ℕ → Type 0
  pieces_at i s out = Pieces c t k (λ _. piece_room) i s out

  pub record Listed (from state : State) (taken : Taken) : Type 0 where
    pub bytes : List ℕ
    pub turn : ℕ
    pub counts : Counts bytes taken
    pub onward : (rest : List ℕ) → pieces_at turn state rest → pieces_at 0 from (bytes ++ rest)

  pub listed_start : (from : State) (taken : Taken) → taken ≡ none_taken → Listed from from taken
  listed_start from taken e =
      record { bytes = []; turn = 0; counts = subst (Counts []) (sym e) counts-none; onward = λ rest p. p }

  module _ (from state next : State) (taken more both : Taken) (l : Listed from state taken) (g : Gives c t k state more next)
      (e : both ≡ both_of taken more) where
    pub listed_next : Listed from next both
    listed_next =
        record {
          bytes = l.bytes ++ g.bytes;
          turn = suc l.turn;
          counts = counts-both l.bytes g.bytes taken more both e l.counts g.counts;
          onward =
              λ rest p.
              subst (pieces_at 0 from) (sym (append_assoc l.bytes g.bytes rest))
              (l.onward (g.bytes ++ rest) (piece l.turn state g.bytes next rest g.runs p));
        }

  done-state : (s : State) → done_by s ≡ true → s ≡ Done
  done-state Start h = absurd (let z : ◌≡◌ {A = ℕ} 0 1 = cc in omega arith)
  done-state (After places) h = absurd (let z : ◌≡◌ {A = ℕ} 0 1 = cc in omega arith)
  done-state Done h = refl

  pub listed-done : (from state : State) (taken : Taken) (b : Bool) → Listed from state taken → b ≡ done_by state → b ≡ true
      → (out : List ℕ) × ListedFrom c t k from out × Counts out taken
  listed-done from state taken b l e h =
      let s : state ≡ Done = done-state state (sym e ∙ h) in
      (l.bytes, subst (ListedFrom c t k from) (append-nil l.bytes) (l.onward [] (over l.turn state s)), l.counts)

  pub turn-less : (s u : State) (taken : Taken) (b : Bool) → b ≡ done_by s → b ≡ false → Gives c t k s taken u → left_of c t k u < left_of c t k s
  turn-less s u taken b e n g =
      runs-falls c t k piece_room s u g.bytes (omega arith)
      (λ d. absurd (let z : false ≡ true = sym n ∙ e ∙ ap done_by d in let y : ◌≡◌ {A = ℕ} 0 1 = cc in omega arith))
      g.runs

pub ruleset mine = (rules, opened-lent, head-heads, head-whole, piece-fits, piece-runs, listed_start, listed_next, listed-done, turn-less)
