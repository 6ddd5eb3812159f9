-- The line and the pieces that are handed over are what has to be printed.
--     opened-ready                    what `open` gives, with room for all steps
--     line-finds                      the line's bytes are the finder program's line
--     piece-fits, piece-comes         a piece's bytes stand in its space; they are the lines that come
--     Listed                          what was handed over so far, and the lines from an item on, are all
--     listed_start, listed_next       nothing yet; a piece more
--     listed-done                     every line was handed over
--     turn-less                       a piece has room for a line, so it ends at a later one
--     head-whole                      the line, and then the lines of the grounds
--     room-there                      the program's run has room
-- Assumes nothing.
use mathlib.Core.List.{List, [], ◌++◌, append-nil, append_assoc}
use mathlib.Core.Path.{◌≡◌, refl, sym, ap, subst, ◌∙◌}
use Prim.Native.Nat.{ℕ, ◌+◌, ◌-◌, ◌≤◌, ◌<◌}
use native.Mathlib.Omega.{arith}
use borrow.Author.Rules.{rules}
use lib.ListN.{length, take, drop, replicate, length-replicate}
use Rattle.meaning.specs.Text.{narrow}
use Rattle.meaning.specs.Replies.{FindPrints}
use Rattle.reply_lines.specs.Pieces.{run}
use Rattle.outputs.specs.Claims.{PrintsFound}
use Rattle.grounds_verdict.specs.declared.Conclusions.{Conclusions}
use Rattle.grounds_steps.specs.Steps.{most_steps}
use Rattle.grounds_lines.specs.Filling.{item_count, line_in, frames_from, count_from, fills_from, Fills}
use Rattle.grounds_lines.specs.Opening.{Opens}
use Rattle.grounds_lines.specs.declared.Filled.{Filled}
use Rattle.grounds_lines.specs.declared.opening.Opened.{Opened}
use Rattle.grounds_lines.proofs.Filling.{fills-rest, fills-on}
use Rattle.grounds_lines.proofs.Output.{opened-found}
use Rattle.channels.specs.declared.output.Taken.{Taken}
use Rattle.channels.specs.Sending.{none_taken, both_of, Counts}
use Rattle.channels.proofs.Fronts.{front_fits, front-taken}
use Rattle.channels.proofs.Sending.{counts-none, counts-both}
use Rattle.grounds.specs.Giving.{Ready, GroundsPrints, Comes, Gives}

-- ---- the line

pub opened-ready : (input : List ℕ) (steps steps' : List (List ℕ)) (o : Opened) → most_steps ≤ length steps → Opens input steps o steps' → Ready input o steps'
opened-ready input steps steps' o room opens = record { steps = steps; room = room; opens = opens }

module _ (input : List ℕ) (o : Opened) (steps : List (List ℕ)) (ready : Ready input o steps) where
  found : PrintsFound input o.line
  found = opened-found input ready.steps o steps ready.room ready.opens

  abbrev line_of : List ℕ
  line_of = take o.line.len o.line.bytes

  pub line-finds : FindPrints narrow input line_of
  line-finds =
      subst (FindPrints narrow input)
      (sym (front-taken found.line (replicate (32 - length found.line) 0) o.line.bytes o.line.len found.front.size found.front.front))
      found.prints

  pub head-whole : (a b r : Taken) → Counts line_of a → Counts (frames_from steps o.steps o.conclusions o.literals 0) b → r ≡ both_of a b
      → (out : List ℕ) × GroundsPrints input out × Counts out r
  head-whole a b r c d e = (
    line_of ++ frames_from steps o.steps o.conclusions o.literals 0,
    record { opened = o; steps = steps; ready = ready; line = line_of; finds = line-finds; whole = refl },
    counts-both line_of (frames_from steps o.steps o.conclusions o.literals 0) a b r e c d,
  )

-- ---- the pieces

module _ (steps : List (List ℕ)) (many : ℕ) (d : Conclusions) (literals : ℕ) where
  abbrev frames : ℕ → List ℕ
  frames p = frames_from steps many d literals p

  module _ (from : ℕ) (r : Filled) (after : List ℕ) (f : Fills steps many d literals from (replicate 8192 0) r after) where
    abbrev bytes : List ℕ
    bytes = fills_from steps many d literals from (length (replicate {A = ℕ} 8192 0))

    pub piece-fits : r.used ≤ length after
    piece-fits = front_fits bytes (drop r.used (replicate 8192 0)) after r.used f.used f.stored

    pub piece-comes : Comes steps many d literals from r.next (take r.used after)
    piece-comes =
        record {
          whole =
              fills-rest steps many d literals from (length (replicate {A = ℕ} 8192 0))
              ∙ ap (λ (l : List ℕ). l ++ frames (from + count_from steps many d literals from (length (replicate {A = ℕ} 8192 0))))
              (sym (front-taken bytes (drop r.used (replicate 8192 0)) after r.used f.used f.stored))
              ∙ ap (λ (p : ℕ). take r.used after ++ frames p) (sym f.next);
          later =
              λ h.
              omega (arith, f.next, fills-on steps many d literals from (length (replicate {A = ℕ} 8192 0)) (omega (arith, length-replicate {A = ℕ} 8192 0)) h);
        }

  pub record Listed (at : ℕ) (taken : Taken) : Type 0 where
    pub bytes : List ℕ
    pub counts : Counts bytes taken
    pub whole : frames 0 ≡ bytes ++ frames at

  pub listed_start : (taken : Taken) → taken ≡ none_taken → Listed 0 taken
  listed_start taken e = record { bytes = []; counts = subst (Counts []) (sym e) counts-none; whole = refl }

  module _ (at next : ℕ) (taken more both : Taken) (l : Listed at taken) (g : Gives steps many d literals at next more) (e : both ≡ both_of taken more) where
    pub listed_next : Listed next both
    listed_next =
        record {
          bytes = l.bytes ++ g.bytes;
          counts = counts-both l.bytes g.bytes taken more both e l.counts g.counts;
          whole = l.whole ∙ ap (λ (z : List ℕ). l.bytes ++ z) g.comes.whole ∙ sym (append_assoc l.bytes g.bytes (frames next));
        }

  pub listed-done : (at end : ℕ) (taken : Taken) → Listed at taken → end ≡ item_count steps many literals → end ≤ at → Counts (frames 0) taken
  unfolding run
  listed-done at end taken l e h =
      let z : item_count steps many literals - at ≡ 0 = omega arith in
      let none : frames at ≡ [] = ap (run (line_in steps many d) at) z in
      subst (λ (x : List ℕ). Counts x taken) (sym (l.whole ∙ ap (λ (x : List ℕ). l.bytes ++ x) none ∙ append-nil l.bytes)) l.counts

  pub turn-less : (end at next : ℕ) (taken : Taken) → end ≡ item_count steps many literals → at < end
      → Gives steps many d literals at next taken → end - next < end - at
  turn-less end at next taken e h g = omega (arith, g.comes.later (omega arith))

-- ---- the run

pub room-there : (words : List ℕ) → most_steps ≤ length (replicate most_steps words)
room-there words = omega (arith, length-replicate {A = List ℕ} most_steps words)

pub ruleset mine = (rules, opened-ready, line-finds, head-whole, piece-fits, piece-comes, listed_start, listed_next, listed-done, turn-less, room-there)
