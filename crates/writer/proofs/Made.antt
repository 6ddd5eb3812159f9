-- The answers with nothing written, as the code makes them.
--     mine   what these functions leave to show
-- Assumes nothing.
use mathlib.Core.List.{List}
use mathlib.Core.Path.{◌≡◌, refl}
use Prim.Native.Nat.{ℕ}
use borrow.Author.Rules.{rules}
use lib.ListN.{replicate}
use Rattle.replies.specs.declared.Refusal.{Refusal}
use Rattle.grounds_verdict.specs.declared.Conclusions.{Conclusions}
use Rattle.replies.specs.declared.Outcome.{Outcome}
use Rattle.replies.specs.declared.Outcome.TheVariants.{Refused}
use Rattle.runs.specs.Limits.{most_literals, most_variables, unused_place}
use Rattle.writer.specs.Claims.{no_conclusions}
use Rattle.writer.specs.Seeking.{bare_with, refused_with}
use Rattle.writer.specs.declared.Grounds.{Grounds}

pub none_made : record { firsts = replicate most_literals 0; differences = replicate most_literals 0 } ≡ no_conclusions
unfolding no_conclusions
none_made = refl

pub bare-made : (outcome : Outcome) (places : List ℕ) (d : Conclusions) → d ≡ no_conclusions
    → record { outcome = outcome; places = places; steps = 0; literals = 0; conclusions = d } ≡ bare_with outcome places
unfolding bare_with
bare-made outcome places d e = rw e

pub refused-made : (x : Refusal) (r : Grounds) → r ≡ bare_with (Refused x) (replicate most_variables unused_place) → r ≡ refused_with x
unfolding refused_with
refused-made x r e = e

pub ruleset mine = (rules, none_made, bare-made, refused-made)
