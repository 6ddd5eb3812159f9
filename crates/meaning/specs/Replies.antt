-- What the finder and the normaliser have to answer, what the lent space holds afterwards, and what the programs print.
--     Reply, code_of, values_of, places_of   a reply, with document 01's number and values for each case and the four places handed over
--     Replies                             the finder's reply to a text
--     Normal, Normalises                  a context's normal text; the normal text that a text gets, or its refusal
--     Writes                              the normaliser's answer, and the lent space afterwards
--     FindPrints, NormalisePrints         what the programs print for an input
-- Assumes nothing.
use Rattle.std.specs.Prelude.{List, [], ◌∷◌, ◌++◌, ◌≡◌, ℕ, suc, ◌-◌, ◌≤◌, ◌<◌, ◌/◌, ◌%◌, length, drop, replicate}
use Rattle.meaning.specs.Context.{Context}
use Rattle.meaning.specs.Equality.{FirstClash, Consistent, Representatives}
use Rattle.meaning.specs.Rules.{Clause, Found, found, nothing, Answers}
use Rattle.meaning.specs.Text.{Limits, Refusal, Reading, faulty, taken, read}
use Rattle.meaning.specs.Writing.{frame, context_text, normal_of}

-- a refusal that names no byte: 8 to 11
abbrev pub refusal : ℕ → ℕ → Refusal
refusal n p = record { number = n; place = p; offset = 0 }

-- ---- the finder
pub data Reply : Type 0 where
  breach : List ℕ → Reply
  none : Reply
  refused : Refusal → Reply

unfoldable pub code_of : Reply → ℕ
code_of (breach a) = 8
code_of none = 9
code_of (refused r) = 10

unfoldable pub values_of : Reply → List ℕ
values_of (breach a) = length a ∷ a
values_of none = []
values_of (refused r) = r.number ∷ r.place / 256 ∷ r.place % 256 ∷ r.offset / 256 ∷ r.offset % 256 ∷ []

-- four rows, unused places 255
unfoldable pub places_of : Reply → List ℕ
places_of (breach a) = a ++ replicate (4 - length a) 255
places_of none = replicate 4 255
places_of (refused r) = replicate 4 255

abbrev pub reply_of : Found → Reply
reply_of (found a) = breach a
reply_of nothing = none

-- 8, then 9 with the ordinal of the first difference with equal sides, then the first breach or none
pub data Judged (c : Context) (k : Clause) : Reply → Type 0 where
  empty : k.literals ≡ [] → Judged c k (refused (refusal 8 0))
  clashes : (k.literals ≡ [] → ⊥) → (n : ℕ) → FirstClash c n → Judged c k (refused (refusal 9 (suc n)))
  answers : (k.literals ≡ [] → ⊥) → Consistent c → (r : Found) → Answers c k r → Judged c k (reply_of r)

abbrev pub RepliesTo : Reading → Reply → Type 0
RepliesTo (faulty f) r = r ≡ refused f
RepliesTo (taken s) r = Judged s.ledger.context s.clause r

abbrev pub Replies : Limits → List ℕ → Reply → Type 0
Replies L text r = RepliesTo (read L text) r

-- ---- the normaliser
abbrev pub Normal : Context → List ℕ → Type 0
Normal c text = (rep : ℕ → ℕ) × Representatives c rep × (text ≡ context_text (normal_of rep c))

pub data Normalised : Type 0 where
  normal : List ℕ → Normalised
  abnormal : Refusal → Normalised

-- 9, then the normal text
pub data Settled (c : Context) : Normalised → Type 0 where
  contradicts : (n : ℕ) → FirstClash c n → Settled c (abnormal (refusal 9 (suc n)))
  settles : Consistent c → (text : List ℕ) → Normal c text → Settled c (normal text)

abbrev pub NormalisesTo : Reading → Normalised → Type 0
NormalisesTo (faulty f) r = r ≡ abnormal f
NormalisesTo (taken s) r = Settled s.ledger.context r

abbrev pub Normalises : Limits → List ℕ → Normalised → Type 0
Normalises L text r = NormalisesTo (read L text) r

-- how many bytes were written, or the refusal
pub data Written : Type 0 where
  wrote : ℕ → Written
  unwritten : Refusal → Written

-- 10 where the lent space is too short; a refusal leaves every byte, and a text leaves those after it
pub data Leaves (lent : List ℕ) : Normalised → Written → List ℕ → Type 0 where
  fits : (text : List ℕ) → length text ≤ length lent → Leaves lent (normal text) (wrote (length text)) (text ++ drop (length text) lent)
  short : (text : List ℕ) → length lent < length text → Leaves lent (normal text) (unwritten (refusal 10 0)) lent
  stays : (r : Refusal) → Leaves lent (abnormal r) (unwritten r) lent

pub record Writes (L : Limits) (text lent : List ℕ) (answer : Written) (after : List ℕ) : Type 0 where
  pub result : Normalised
  pub normalises : Normalises L text result
  pub leaves : Leaves lent result answer after

-- ---- the programs: the most bytes that they take, and 11 before everything else
abbrev pub input_limit : ℕ
input_limit = 16384

unfoldable pub printed : Reply → List ℕ
printed r = frame (code_of r ∷ values_of r)

unfoldable pub printed_normal : Normalised → List ℕ
printed_normal (normal text) = text
printed_normal (abnormal r) = printed (refused r)

pub data FindPrints (L : Limits) (input : List ℕ) : List ℕ → Type 0 where
  long : input_limit < length input → FindPrints L input (printed (refused (refusal 11 0)))
  replies : length input ≤ input_limit → (r : Reply) → Replies L input r → FindPrints L input (printed r)

pub data NormalisePrints (L : Limits) (input : List ℕ) : List ℕ → Type 0 where
  long : input_limit < length input → NormalisePrints L input (printed_normal (abnormal (refusal 11 0)))
  normalises : length input ≤ input_limit → (r : Normalised) → Normalises L input r → NormalisePrints L input (printed_normal r)
