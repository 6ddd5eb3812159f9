-- What the code keeps. Each theorem speaks of any functions that meet the contracts of the public ones; a contract stands above its function in src/,
-- and what it cites in the specs/ of that crate. In order: the three demands, the list of all breaches, grounds, and what each program prints.
-- Assumes nothing.
use mathlib.Core.List.{List, [], ◌++◌}
use mathlib.Core.Path.{◌≡◌}
use Prim.Native.Nat.{ℕ, ◌≤◌}
use lib.ListN.{length, take}
use Rattle.meaning.specs.Text.{narrow}
use Rattle.meaning.specs.Replies.{breach, Replies, FindPrints, NormalisePrints}
use Rattle.meaning.specs.Listing.{BreachesPrints}
use Rattle.meaning.specs.Demands.{RefusesRightly, LeavesRightly, FindsFirst, KeepsMeaning}
use Rattle.meaning.proofs.Rightly.{right-refuses, right-leaves, right-finds, right-keeps}
use Rattle.replies.specs.declared.Outcome.TheVariants.{Breach}
use Rattle.replies.specs.declared.Reply.{Reply}
use Rattle.std.specs.Prelude.{Result, Ok}
use Rattle.replies.specs.declared.Refusal.{Refusal}
use Rattle.reply_lines.specs.declared.Line.{Line}
use Rattle.outputs.specs.Claims.{normal_limit, PrintsFound, PrintsNormal}
use Rattle.outputs.specs.declared.Parts.{Parts}
use Rattle.outputs.proofs.Outputs.{output-prints}
use Rattle.hunting.specs.Laid.{context_in, rule_in}
use Rattle.listing.specs.Filling.{Pieces}
use Rattle.listing.specs.Opening as Listing
use Rattle.listing.specs.declared.opening.Opened.{Opened as ListOpened}
use Rattle.listing.proofs.Output.{opened-prints, opened-ends}
use Rattle.grounds_verdict.specs.declared.Conclusions.{Conclusions}
use Rattle.grounds_judgement.specs.Judgements.{BreachOf}
use Rattle.grounds_judgement.specs.Claims.{Outcome as Judgement, JudgesTo}
use Rattle.grounds_judgement.proofs.Answers as Judging
use Rattle.grounds_steps.specs.Steps.{most_steps}
use Rattle.writer.specs.Claims.{Writes as WritesGrounds}
use Rattle.writer.specs.declared.Grounds.{Grounds}
use Rattle.writer.proofs.Answers.{writes-accepted}
use Rattle.grounds_lines.specs.Opening as Framing
use Rattle.grounds_lines.specs.Filling.{frames_from}
use Rattle.grounds_lines.specs.declared.opening.Opened.{Opened as GroundsOpened}
use Rattle.grounds_lines.proofs.Output.{opened-found, opened-alone}
use Rattle.grounds_replies.specs.Replies.{VerifyPrints}
use Rattle.theorems.specs.Said.{Find, finder_of, Normalise, normaliser_of, shown_in, Spaces, ended, PrintsAfter}
use Rattle.theorems.proofs.Contracts.{finds-rightly, found-shown, verify-shown}

-- Every text ends in one listed reply; a faulty text is refused by number and place, the first fault deciding, and then no lent byte is written.
pub demand-1 : (f : List ℕ → Reply) → Find f → (n : List ℕ → List ℕ → Result ℕ Refusal × List ℕ) → Normalise n
    → RefusesRightly (finder_of f) × LeavesRightly (normaliser_of n)
demand-1 f find n normalise = (right-refuses (finder_of f) (finds-rightly f find), right-leaves (normaliser_of n) normalise)

-- The finder gives the first breach in row order, and none exactly when there is none.
pub demand-2 : (f : List ℕ → Reply) → Find f → FindsFirst (finder_of f)
demand-2 f find = right-finds (finder_of f) (finds-rightly f find)

-- There is a normal text; normal texts agree exactly when the same rows are equal and the same are kept apart; normalising twice changes nothing; every rule gets one reply.
pub demand-3 : (n : List ℕ → List ℕ → Result ℕ Refusal × List ℕ) → Normalise n → KeepsMeaning (normaliser_of n)
demand-3 n normalise = right-keeps (normaliser_of n) normalise

-- The list: what `listing::opening::open` and the pieces of `listing::fill` give, joined, is every breach made of representatives, each once and in order, and then 09.
pub list-prints : (input : List ℕ) (o : ListOpened) → Listing.Opens input o → (room : ℕ → ℕ) (out : List ℕ) → Pieces (context_in o.laid) o.laid.table (rule_in o.laid) room 0 o.state out
    → BreachesPrints narrow input (shown_in o.line ++ out)
list-prints = opened-prints

-- And the pieces end, whatever rooms of at least a line they are given.
pub list-ends : (input : List ℕ) (o : ListOpened) → Listing.Opens input o → (room : ℕ → ℕ) → ((i : ℕ) → 13 ≤ room i)
    → (out : List ℕ) × Pieces (context_in o.laid) o.laid.table (rule_in o.laid) room 0 o.state out
list-ends = opened-ends

-- Grounds that `grounds_judgement::judge` accepts, whoever wrote them, show a breach of the text's rule.
pub accepted-breach : (text places : List ℕ) (steps : List (List ℕ)) (d : Conclusions) → JudgesTo text places steps d (Ok (Ok tt)) → BreachOf narrow text places
accepted-breach text places steps d j = Judging.accepted-breach _ _ _ narrow text j.judges

-- Grounds that `writer::write` gives for a breach are accepted.
pub ours-accepted : (text : List ℕ) (steps : List (List ℕ)) (r : Grounds) (x : List (List ℕ)) → WritesGrounds text steps r x → (n : ℕ) → r.outcome ≡ Breach n
    → (o : Judgement) → JudgesTo text r.places (take r.steps x) r.conclusions o
    → o ≡ Ok (Ok tt)
ours-accepted = writes-accepted

-- What `find` prints, refusal 11 first.
pub find-prints : (input : List ℕ) (l : Line) → PrintsFound input l → FindPrints narrow input (shown_in l)
find-prints = found-shown

-- What `normalise` prints, with space for any normal text.
pub normalise-prints : (input space after : List ℕ) (r : Parts) → normal_limit ≤ length space → PrintsNormal input space r after
    → NormalisePrints narrow input (take r.text after ++ shown_in r.line)
normalise-prints = output-prints

-- What `grounds` prints first is what `find` prints, and nothing follows where there is no breach.
pub grounds-prints : (input : List ℕ) (steps : List (List ℕ)) (o : GroundsOpened) (x : List (List ℕ)) → most_steps ≤ length steps → Framing.Opens input steps o x
    → FindPrints narrow input (shown_in o.line) × (((a : List ℕ) → Replies narrow input (breach a) → ⊥) → frames_from x o.steps o.conclusions o.literals 0 ≡ [])
grounds-prints input steps o x room w = (found-shown input o.line (opened-found input steps o x room w), opened-alone input steps o x w)

-- What `verify` prints for an input that was fed to it whole, in whatever pieces.
pub verify-prints : (text : List ℕ) (steps : List (List ℕ)) → Spaces text steps → (input : List ℕ) (l : Line)
    → PrintsAfter (ended text steps input) l → VerifyPrints narrow input (shown_in l)
verify-prints = verify-shown
