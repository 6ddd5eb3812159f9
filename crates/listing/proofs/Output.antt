-- The program's whole output: the line that `open` gives, and the pieces of `fill` from its state on.
--     limit-long, limit-short, head-ready, head-refused    the parts
--     open_done                                            what `open` promises
--     opens_one                                            two answers to one input are equal
--     opened-lent                                          what is lent to `fill`, with a memo of zeros
--     opened-prints, opened-ends                           the line and the pieces are what is to be printed, and with rooms of 13 bytes or more the pieces end
-- Assumes nothing.
use mathlib.Core.Bool.{Bool, true, false}
use mathlib.Core.List.{List, [], ◌++◌, append-nil}
use mathlib.Core.Path.{◌≡◌, refl, sym, ap₂, subst, ◌∙◌}
use Prim.Native.Nat.{ℕ, ◌≤◌, ◌<◌}
use native.Mathlib.Omega.{arith}
use borrow.Author.Rules.{rules}
use borrow.Author.Tests.{ltb-true, ltb-false, lt-ltb, le-ltb}
use lib.Dec.{ltb}
use lib.ListN.{length, take}
use Rattle.std.proofs.Common.{Result, Ok, Err}
use Rattle.meaning.specs.Equality.{Consistent}
use Rattle.meaning.specs.Text.{narrow}
use Rattle.meaning.specs.Replies.{refused, refusal, printed, input_limit, Replies}
use Rattle.meaning.specs.Listing as L
use Rattle.meaning.specs.Listing.{unlisted, printed_listing, BreachesPrints, replies}
use Rattle.replies.specs.declared.Refusal.{Refusal}
use Rattle.replies.specs.Told.{meant}
use Rattle.differing.proofs.Knowing.{knows_start}
use Rattle.search.specs.Finding.{found_by}
use Rattle.hunting.specs.Laid.{Ready, Lays, context_in, rule_in, Sound, nothing_known}
use Rattle.hunting.specs.declared.Laid.{Laid}
use Rattle.hunting.proofs.Laying.{lays-context, lays-rule, lays_sound, lays_one}
use Rattle.ruling.specs.Claims as R
use Rattle.ruling.specs.Claims.{rows_in, said_in, patterns_in, literals_in, Ruling, Rules}
use Rattle.ruling.specs.declared.Ruled.{Ruled}
use Rattle.ruling.proofs.Ruling.{Stands, ready-stands, ready-consistent, refused-answers, ruled-one, rules-one}
use Rattle.finder.proofs.Standing.{told-filled, told-ready, ready-replies}
use Rattle.reply_lines.specs.Prints.{Prints}
use Rattle.reply_lines.specs.declared.Line.{Line}
use Rattle.reply_lines.proofs.Printing.{line-one}
use Rattle.listing.specs.declared.State.{State}
use Rattle.listing.specs.declared.opening.Opened.{Opened}
use Rattle.listing.specs.Filling.{Lent, start_state, Pieces, over}
use Rattle.listing.specs.Opening.{done_state, limited_by, Headed, starts, ends, Begins, long, refuses, ready, Opens}
use Rattle.listing.proofs.Pieces.{past-pieces}
use Rattle.listing.proofs.Filling.{front_of}
use Rattle.listing.proofs.Lines.{sound-fitted}
use Rattle.listing.proofs.Whole.{every-ends, text-pieces}

-- ---- the parts

pub limit-long : (n : ℕ) (answer : Result (Unit {0}) Refusal) → input_limit < n → Err (record { number = 11; line = 0; offset = 0 }) ≡ limited_by n answer
unfolding limited_by
limit-long n answer h = rw (limited_by, lt-ltb input_limit n h) refl

pub limit-short : (n : ℕ) (answer : Result (Unit {0}) Refusal) → n ≤ input_limit → answer ≡ limited_by n answer
unfolding limited_by
limit-short n answer h = rw (limited_by, le-ltb input_limit n h) refl

pub head-ready : (answer : Result (Unit {0}) Refusal) (l : Line) (s : State) → answer ≡ (Ok tt) → Prints [] l.bytes l.len → s ≡ start_state → Headed answer l s
head-ready answer l s e p q = subst (Headed answer l) (sym q) (starts e p)

pub head-refused : (answer : Result (Unit {0}) Refusal) (x : Refusal) (l : Line) (s : State) → answer ≡ Err x
    → Prints (printed (refused (meant x))) l.bytes l.len → s ≡ done_state → Headed answer l s
head-refused answer x l s e p q = subst (Headed answer l) (sym q) (ends x e p)

-- ---- the input

headed-begins : (input : List ℕ) (a b : Result (Unit {0}) Refusal) (l : Line) (s : State) → Ruling input a → b ≡ limited_by (length input) a → Headed b l s → Begins input l s
headed-begins input a b l s w e h = go (ltb input_limit (length input)) refl
  where
    short : length input ≤ input_limit → a ≡ b → (s : State) → Headed b l s → Begins input l s
    short few q s (starts f p) = ready few (subst (Ruling input) (q ∙ f) w) p
    short few q s (ends x f p) = refuses few x (subst (Ruling input) (q ∙ f) w) p

    over-long : input_limit < length input → (s : State) → Headed (Err (record { number = 11; line = 0; offset = 0 })) l s → Begins input l s
    over-long h s (starts f p) = absurd (let z : ◌≡◌ {A = ℕ} 0 1 = cc in omega arith)
    over-long h s (ends x f p) =
        let q : x ≡ record { number = 11; line = 0; offset = 0 } = cc in
        long h (subst (λ (x : Refusal). Prints (printed (refused (meant x))) l.bytes l.len) q p)

    go : (t : Bool) → ltb input_limit (length input) ≡ t → Begins input l s
    go true t =
        let k : input_limit < length input = ltb-true input_limit (length input) t in
        over-long k s (subst (λ (x : Result (Unit {0}) Refusal). Headed x l s) (e ∙ sym (limit-long (length input) a k)) h)
    go false t = let k : length input ≤ input_limit = ltb-false input_limit (length input) t in short k (limit-short (length input) a k ∙ sym e) s h

pub open_done : (input : List ℕ) (p : Ruled) → Rules input p → (b : Result (Unit {0}) Refusal) → b ≡ limited_by (length input) p.answer → (h : Line) (s : State) → Headed b h s
    → (l : Laid) → Lays (rows_in p.told) (said_in p.told) (patterns_in p.told) (literals_in p.told) p.table l
    → Opens input (record { line = h; state = s; laid = l })
open_done input p w b e h s x l y = record { begins = headed-begins input p.answer b h s w.ruled e x; read = p; rules = w; lays = y }

-- ---- one answer

refusal-one : (input : List ℕ) (x y : Refusal) → Ruling input (Err x) → Ruling input (Err y) → x ≡ y
refusal-one input x y p q = let e : Err x ≡ Err y = ruled-one input (Err x) (Err y) p q in cc

never_both : (input : List ℕ) (x : Refusal) → Ruling input (Err x) → Ruling input (Ok tt) → ⊥
never_both input x p q = let e : Err x ≡ (Ok tt) = ruled-one input (Err x) (Ok tt) p q in let z : ◌≡◌ {A = ℕ} 0 1 = cc in omega arith

begins-one : (input : List ℕ) (l m : Line) (s t : State) → Begins input l s → Begins input m t → (l ≡ m) × (s ≡ t)
begins-one input l m s t (long h p) (long g q) = (line-one l m p q, refl)
begins-one input l m s t (long h p) (refuses g x w q) = absurd (omega arith)
begins-one input l m s t (long h p) (ready g w q) = absurd (omega arith)
begins-one input l m s t (refuses h x v p) (long g q) = absurd (omega arith)
begins-one input l m s t (refuses h x v p) (refuses g y w q) =
    let e : y ≡ x = refusal-one input y x w v in
    (line-one l m p (subst (λ (z : Refusal). Prints (printed (refused (meant z))) m.bytes m.len) e q), refl)
begins-one input l m s t (refuses h x v p) (ready g w q) = absurd (never_both input x v w)
begins-one input l m s t (ready h v p) (long g q) = absurd (omega arith)
begins-one input l m s t (ready h v p) (refuses g x w q) = absurd (never_both input x w v)
begins-one input l m s t (ready h v p) (ready g w q) = (line-one l m p q, refl)

same_parts : {h i : Line} {s t : State} {l m : Laid} → h ≡ i → s ≡ t → l ≡ m
    → ◌≡◌ {A = Opened} (record { line = h; state = s; laid = l }) (record { line = i; state = t; laid = m })
same_parts e f g = rw (e, f, g)

pub opens_one : (input : List ℕ) (o p : Opened) → Opens input o → Opens input p → o ≡ p
opens_one input o p v w =
    let b : (o.line ≡ p.line) × (o.state ≡ p.state) = begins-one input o.line p.line o.state p.state v.begins w.begins in
    let r : w.read ≡ v.read = rules-one input w.read v.read w.rules v.rules in
    same_parts b.0 b.1
    (lays_one _ _ _ _ _ (told-ready input v.read v.rules) o.laid p.laid v.lays
    (subst (λ (x : Ruled). Lays (rows_in x.told) (said_in x.told) (patterns_in x.told) (literals_in x.told) x.table p.laid) r w.lays))

-- ---- what is lent to `fill`

pub opened-lent : (input : List ℕ) (o : Opened) → Opens input o → (known : List ℕ) → known ≡ nothing_known → Lent o.laid known
opened-lent input o w known e =
    record {
      sound = lays_sound _ _ _ _ _ (told-ready input w.read w.rules) o.laid w.lays;
      knows = knows_start (context_in o.laid) known e;
    }

-- ---- the whole output

module _ (input : List ℕ) (o : Opened) (opens : Opens input o) where
  abbrev pub first_of : List ℕ
  first_of = take o.line.len o.line.bytes

  abbrev l : Laid
  l = o.laid

  abbrev PiecesOf : (ℕ → ℕ) → State → List ℕ → Type 0
  PiecesOf room s out = Pieces (context_in o.laid) o.laid.table (rule_in o.laid) room 0 s out

  abbrev p : Ruled
  p = opens.read

  can : Ready (rows_in p.told) (said_in p.told) (patterns_in p.told) (literals_in p.told) p.table
  can = told-ready input p opens.rules

  sound : Sound l
  sound = lays_sound _ _ _ _ _ can l opens.lays

  ruled-refuses : (x : Refusal) → Ruling input (Err x) → Replies narrow input (refused (meant x))
  ruled-refuses x w = refused-answers input p opens.rules x (ruled-one input p.answer (Err x) opens.rules.ruled w)

  ready-prints : Ruling input (Ok tt) → length input ≤ input_limit → (room : ℕ → ℕ) (out : List ℕ) → PiecesOf room start_state out → BreachesPrints narrow input out
  ready-prints w few room out y =
      let e : p.answer ≡ (Ok tt) = ruled-one input p.answer (Ok tt) opens.rules.ruled w in
      let s : Stands input p.told = ready-stands input p opens.rules e in
      let c : context_in l ≡ R.context_in p.told = lays-context _ _ _ _ _ can l opens.lays in
      let k : rule_in l ≡ R.clause_in p.told = lays-rule _ _ _ _ _ can l opens.lays in
      text-pieces (context_in l) l.table (rule_in l) (sound-fitted l sound) (subst Consistent (sym c) (ready-consistent input p opens.rules e)) sound.closed.rows input few s.what s.whole
      (c ∙ s.context) (k ∙ s.clause) (found_by (R.context_in p.told) p.table (R.clause_in p.told)) (ready-replies input p opens.rules e) room 0 out y

  pub opened-prints : (room : ℕ → ℕ) (out : List ℕ) → PiecesOf room o.state out → BreachesPrints narrow input (first_of ++ out)
  unfolding printed_listing
  opened-prints room out y = go o.state opens.begins y
    where
      -- a line, and nothing behind it
      alone : (line : List ℕ) → Prints line o.line.bytes o.line.len → PiecesOf room done_state out → first_of ++ out ≡ line
      alone line p y =
          ap₂ ◌++◌ (front_of line o.line.bytes o.line.len p) (past-pieces (context_in l) l.table (rule_in l) room 0 done_state out refl y) ∙ append-nil line

      go : (s : State) → Begins input o.line s → PiecesOf room s out → BreachesPrints narrow input (first_of ++ out)
      go s (long h p) y = subst (BreachesPrints narrow input) (sym (alone (printed (refused (refusal 11 0))) p y)) (L.long h)
      go s (refuses h x w p) y =
          subst (BreachesPrints narrow input) (sym (alone (printed (refused (meant x))) p y))
          (replies h (unlisted (meant x)) (L.refuses (meant x) (ruled-refuses x w)))
      go s (ready h w p) y =
          subst (λ (z : List ℕ). BreachesPrints narrow input (z ++ out)) (sym (front_of [] o.line.bytes o.line.len p)) (ready-prints w h room out y)

  pub opened-ends : (room : ℕ → ℕ) → ((i : ℕ) → 13 ≤ room i) → (out : List ℕ) × PiecesOf room o.state out
  opened-ends room h = go o.state opens.begins
    where
      go : (s : State) → Begins input o.line s → (out : List ℕ) × PiecesOf room s out
      go s (long n q) = ([], over 0 done_state refl)
      go s (refuses n x w q) = ([], over 0 done_state refl)
      go s (ready n w q) = every-ends (context_in l) l.table (rule_in l) (sound-fitted l sound) room h

pub ruleset mine = (rules, told-filled, told-ready, limit-long, limit-short, head-ready, head-refused, open_done)
