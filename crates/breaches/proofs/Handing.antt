-- What is handed over before the list, with the list behind it, is what has to be printed.
--     head-heads     the line's bytes come before the list
--     head-whole     the line, and then the list
-- Assumes nothing.
use mathlib.Core.List.{List, [], ◌++◌, append-nil}
use mathlib.Core.Path.{◌≡◌, refl, sym, subst}
use Prim.Native.Nat.{ℕ, ◌-◌}
use lib.ListN.{take, replicate}
use Rattle.meaning.specs.Text.{narrow}
use Rattle.meaning.specs.Listing.{BreachesPrints}
use Rattle.hunting.specs.Laid.{context_in, rule_in}
use Rattle.listing.specs.declared.State.{State}
use Rattle.listing.specs.declared.opening.Opened.{Opened}
use Rattle.listing.specs.Filling.{over}
use Rattle.listing.specs.Opening.{done_state, Begins, long, refuses, ready, Opens}
use Rattle.listing.proofs.Output.{opened-prints}
use Rattle.channels.specs.declared.output.Taken.{Taken}
use Rattle.channels.specs.Sending.{both_of, Counts}
use Rattle.channels.proofs.Fronts.{front-taken}
use Rattle.channels.proofs.Sending.{counts-both}
use Rattle.breaches.specs.Giving.{piece_room, Heads, alone, before, ListedFrom}

module _ (input : List ℕ) (o : Opened) (opens : Opens input o) where
  abbrev head_of : List ℕ
  head_of = take o.line.len o.line.bytes

  pub head-heads : Heads input head_of
  head-heads = go o.state refl opens.begins
    where
      only : o.state ≡ done_state → Heads input head_of
      only e =
          alone head_of
          (subst (BreachesPrints narrow input) (append-nil head_of) (opened-prints input o opens (λ _. piece_room) [] (subst (λ (s : State). ListedFrom (context_in o.laid) o.laid.table (rule_in o.laid) s []) (sym e) (over 0 done_state refl))))

      go : (s : State) → o.state ≡ s → Begins input o.line s → Heads input head_of
      go s e (long h p) = only e
      go s e (refuses h x w p) = only e
      go s e (ready h w p) =
          subst (Heads input) (sym (front-taken [] (replicate (32 - 0) 0) o.line.bytes o.line.len p.size p.front)) before

  pub head-whole : (a b r : Taken) → Counts head_of a
      → (out : List ℕ) × ListedFrom (context_in o.laid) o.laid.table (rule_in o.laid) o.state out × Counts out b → r ≡ both_of a b
      → (out : List ℕ) × BreachesPrints narrow input out × Counts out r
  head-whole a b r c (out, p, d) e = (head_of ++ out, opened-prints input o opens (λ _. piece_room) out p, counts-both head_of out a b r e c d)
