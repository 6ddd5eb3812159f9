-- The pieces of an input, one after the other, are the input.
--     takes_none, piece-taken                nothing is taken in yet; a piece
--     Going, going_start, going_next         the pieces so far, of a byte or more
--     all-ended, all-more                    the last piece; no turn is left
--     text_same, and so on                   the spaces stay as long as they were
--     ready-taken                            what was taken in from the start
--     spaces-there                           the program's are long enough
--     run-verifies                           the line for what was taken in
--     line-verified                          its bytes are what some input asks for
-- Assumes nothing.
use mathlib.Core.Bool.{Bool, true, false}
use mathlib.Core.List.{List, [], ◌∷◌, ◌++◌}
use mathlib.Core.Path.{◌≡◌, refl, ap, sym, ◌∙◌, subst}
use Prim.Native.Nat.{ℕ, ◌+◌, ◌-◌, ◌≤◌}
use native.Mathlib.Omega.{arith}
use borrow.Author.Rules.{rules}
use borrow.Author.Tests.{ltb-false}
use lib.Dec.{ltb}
use lib.ListN.{length, take, replicate, length-replicate, length-append}
use Rattle.meaning.specs.Text.{narrow}
use Rattle.grounds_intake.specs.Machine.{Memory, memory, fresh, taken, fed, finished, Becomes, EndsBy}
use Rattle.grounds_intake.specs.declared.Parser.{Parser}
use Rattle.grounds_intake.proofs.Standing.{Stands, stands-start, stands-fed, Parsed, parsed}
use Rattle.meaning.specs.Replies.{input_limit}
use Rattle.grounds_replies.specs.Replies.{step_limit, VerifyPrints}
use Rattle.grounds_replies.specs.Claims.{PrintsFor}
use Rattle.reply_lines.specs.Prints.{Prints}
use Rattle.reply_lines.specs.declared.Line.{Line}
use Rattle.grounds_replies.proofs.Verifying.{verify-prints}
use Rattle.channels.proofs.Fronts.{front-taken}
use Rattle.verify.specs.declared.Taken.{Taken}
use Rattle.verify.specs.declared.Taken.TheVariants.{More, Ended}
use Rattle.verify.specs.Runs.{taken_by, parser_of, Takes, TakesPiece, TakesAll, Spaces, Ready, Verified, Verifies}

-- ---- what a piece says

-- a piece after which there may be more is full
more-full : (p q : Parser) (n : ℕ) → taken_by p n ≡ More q → 8192 ≤ n
more-full p q n e = go (ltb n 8192) refl e
  where
    go : (t : Bool) → ltb n 8192 ≡ t → elim t [ true ↦ Ended p | false ↦ More p ] ≡ More q → 8192 ≤ n
    go true h e = absurd (let z : ◌≡◌ {A = ℕ} 0 1 = cc in omega arith)
    go false h e = ltb-false n 8192 h

parser-behind : (p : Parser) (n : ℕ) → parser_of (taken_by p n) ≡ p
parser-behind p n = go (ltb n 8192)
  where
    go : (t : Bool) → parser_of (elim t [ true ↦ Ended p | false ↦ More p ]) ≡ p
    go true = refl
    go false = refl

-- ---- pieces

fed-append : (a b : List ℕ) (m : Memory) → fed (a ++ b) m ≡ fed b (fed a m)
unfolding fed
fed-append [] b m = refl
fed-append (x ∷ a) b m = fed-append a b (taken x m)

takes_none : (p : Parser) (text : List ℕ) (ss : List (List ℕ)) → Takes (memory p text ss) p text ss
unfolding fed
takes_none p text ss = record { input = []; same = refl }

takes-more : {m : Memory} {p q r : Parser} {text text' : List ℕ} {ss ss' : List (List ℕ)} → Takes m p text ss → Takes (memory p text ss) r text' ss' → r ≡ q
    → Takes m q text' ss'
takes-more {m} {p} {q} {r} {text} {text'} {ss} {ss'} a b e =
    record {
      input = a.input ++ b.input;
      same = ap (λ (o : Parser). memory o text' ss') (sym e) ∙ b.same ∙ ap (fed b.input) a.same ∙ sym (fed-append a.input b.input m);
    }

pub piece-taken : (m : Memory) (piece : List ℕ) (r : Taken) (p : Parser) (text : List ℕ) (ss : List (List ℕ)) → Becomes (fed piece m) p text ss
    → r ≡ taken_by p (length piece) → TakesPiece m r text ss
piece-taken m piece r p text ss b t =
    record {
      takes = record { input = piece; same = ap (λ (q : Parser). memory q text ss) (ap parser_of t ∙ parser-behind p (length piece)) ∙ b.same };
      some = λ q w. omega (arith, more-full p q (length piece) (sym t ∙ w));
    }

-- ---- all pieces

-- so many pieces, each of a byte or more
pub record Going (m : Memory) (p : Parser) (text : List ℕ) (ss : List (List ℕ)) (turns : ℕ) : Type 0 where
  pub takes : Takes m p text ss
  pub count : turns ≤ length takes.input

pub going_start : (p : Parser) (text : List ℕ) (ss : List (List ℕ)) → p ≡ fresh → Going (memory fresh text ss) p text ss 0
going_start p text ss e =
    record {
      takes = subst (λ (q : Parser). Takes (memory fresh text ss) q text ss) (sym e) (takes_none fresh text ss);
      count = omega arith;
    }

module _ {m : Memory} {p : Parser} {text : List ℕ} {ss : List (List ℕ)} {turns : ℕ} (g : Going m p text ss turns) where
  pub going_next : (r : Taken) (q : Parser) (text' : List ℕ) (ss' : List (List ℕ)) → r ≡ More q → TakesPiece (memory p text ss) r text' ss'
      → Going m q text' ss' (turns + 1)
  unfolding takes-more
  going_next r q text' ss' e w =
      record {
        takes = takes-more g.takes w.takes (ap parser_of e);
        count = omega (arith, g.count, w.some q e, length-append g.takes.input w.takes.input);
      }

  pub all-ended : (r : Taken) (q : Parser) (text' : List ℕ) (ss' : List (List ℕ)) → r ≡ Ended q → TakesPiece (memory p text ss) r text' ss'
      → TakesAll m (Ended q) text' ss'
  all-ended r q text' ss' e w =
      record {
        takes = takes-more g.takes w.takes (ap parser_of e);
        endless = λ o f. absurd (let z : ◌≡◌ {A = ℕ} 0 1 = cc in omega arith);
      }

  pub all-more : 18446744073709551615 ≤ turns → TakesAll m (More p) text ss
  all-more h = record { takes = g.takes; endless = λ o e. omega (arith, g.count) }

pub ready-taken : (r : Taken) (p : Parser) (text : List ℕ) (ss : List (List ℕ)) (text' : List ℕ) (ss' : List (List ℕ)) → Spaces text ss → r ≡ Ended p
    → TakesAll (memory fresh text ss) r text' ss' → Ready r text' ss'
ready-taken r p text ss text' ss' s e a =
    record { text₀ = text; steps₀ = ss; spaces = s; takes = a.takes; ended = e ∙ ap (λ (q : Parser). Ended q) (sym (ap parser_of e)) }

-- ---- the line

pub spaces-there : (words : List ℕ) → Spaces (replicate input_limit 0) (replicate step_limit words)
spaces-there words =
    record {
      text-long = omega (arith, length-replicate {A = ℕ} input_limit 0);
      steps-long = omega (arith, length-replicate {A = List ℕ} step_limit words);
    }

pub run-verifies : {t : Taken} {p q : Parser} {text : List ℕ} {ss ss' : List (List ℕ)} {r : Line} → Ready t text ss
    → p ≡ parser_of t
    → EndsBy finished p ss q ss'
    → PrintsFor q text ss' r
    → Verifies r
run-verifies {t} {p} {q} {text} {ss} {ss'} {r} d b e f =
    record { line = v.0; verified = record { input = d.takes.input; asked = v.1 }; prints = v.2 }
  where
    stands : Stands d.takes.input (memory p text ss)
    stands =
        subst (Stands d.takes.input) (sym (ap (λ (o : Parser). memory o text ss) b ∙ d.takes.same))
        (stands-fed [] d.takes.input (memory fresh d.text₀ d.steps₀)
        (stands-start d.text₀ d.steps₀ d.spaces.text-long d.spaces.steps-long))

    whole : Parsed d.takes.input (memory q text ss')
    whole = subst (Parsed d.takes.input) (sym (e.same text)) (parsed d.takes.input (memory p text ss) stands)

    v : (line : List ℕ) × VerifyPrints narrow d.takes.input line × Prints line r.bytes r.len
    v = verify-prints d.takes.input (memory q text ss') r whole f

pub line-verified : (r : Line) → Verifies r → Verified (take r.len r.bytes)
line-verified r v =
    subst Verified (sym (front-taken v.line (replicate (32 - length v.line) 0) r.bytes r.len v.prints.size v.prints.front)) v.verified

pub ruleset mine = (rules, piece-taken, going_start, going_next, all-ended, all-more, ready-taken, spaces-there, run-verifies, line-verified)
