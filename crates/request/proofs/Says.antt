-- What a request that was read says, for those that make one and for those that ask for one.
use Prim.Native.Nat.{ℕ, ◌≤◌}
use mathlib.Core.Path.{◌≡◌, refl, sym, ap, subst, ◌∙◌}
use mathlib.Core.List.{[]}
use mathlib.Core.Option.{Option, none, some}
use native.Mathlib.Omega.{arith}
use Rattle.std.specs.Prelude.{Result, Ok, Err, IsErr, IsErrAnd}
use Rattle.model.specs.declared.Name.{Name}
use Rattle.model.specs.Limits.{name_limit}
use Rattle.model.specs.Request.{Reading, unknown, malformed, beyond, asks}
use Rattle.model.specs.Request as model
use Rattle.model.specs.Stored.{bytes_of, empty_name}
use Rattle.model.specs.Told.{Told, tells, refuses}
use Rattle.model.proofs.Basics.{none_some}
use Rattle.facts.specs.declared.refusals.Refusal.{Refusal}
use Rattle.facts.specs.declared.refusals.Refusal.TheVariants.{Malformed}
use Rattle.facts.specs.Refusals.{number_of}
use Rattle.request.specs.Asked.{Says, asking, named, request_of, reading_told}
use Rattle.request.specs.declared.Asked.{Asked}
use Rattle.request.specs.declared.Request.{Request}

abbrev Res : Type 0
Res = Result Request Refusal

pub says_as : {r : Res} {x y : Reading} → Says r x → x ≡ y → Says r y
says_as s e = rw e at s

-- a refusal that a callee made is handed on
pub says_why : (why : Refusal) {r : Res} {x : Reading} → IsErr r × IsErrAnd r (λ e. e ≡ why) → refuses (number_of why) ≡ reading_told x → Says r x
says_why why {r = Ok q} p e = absurd (p.1)
says_why why {r = Err w} p e = record { says = ap (λ (v : Refusal). refuses (number_of v)) p.1 ∙ e; fits = tt }

-- and is 5, where a word is no name
pub says_five : (why : Refusal) {r : Res} {x : Reading} → IsErr r × IsErrAnd r (λ e. e ≡ why) → number_of why ≡ 5 → x ≡ malformed → Says r x
says_five why p e f = says_why why p (ap (λ (n : ℕ). refuses n) e ∙ sym (ap reading_told f))

-- refused with 5
pub says_malformed : {x : Reading} → x ≡ malformed → Says (Err Malformed) x
says_malformed e = rw e (record { says = refl; fits = tt })

module _ {q : Request} {x : Reading} (k : Asked) where
  pub says_names : (a b : Name) → q ≡ asking k a b → a.len ≤ name_limit → b.len ≤ name_limit → x ≡ named k (bytes_of a) (bytes_of b) → Says (Ok q) x
  says_names a b e f g h = rw (e, h) (record { says = refl; fits = (f, g) })

  pub says_one : (a b : Name) → q ≡ asking k a b → a.len ≤ name_limit → b ≡ empty_name → x ≡ named k (bytes_of a) [] → Says (Ok q) x
  says_one a b e f g h = says_names a empty_name (e ∙ ap (asking k a) g) f (omega arith) h

  pub says_plain : q ≡ asking k empty_name empty_name → x ≡ named k [] [] → Says (Ok q) x
  says_plain e h = says_names empty_name empty_name e (omega arith) (omega arith) h

-- ---- for a caller of `read`

-- a request that was read is what the line asks
asks_some : Option model.Request → Reading
asks_some none = unknown
asks_some (some q) = asks q

asks_told : (x : Reading) {q : model.Request} → tells q ≡ reading_told x → x ≡ asks q
unfolding asks_some
asks_told unknown e = none_some (sym (ap (λ (t : Told model.Request). t.value) e))
asks_told malformed e = none_some (sym (ap (λ (t : Told model.Request). t.value) e))
asks_told beyond e = none_some (sym (ap (λ (t : Told model.Request). t.value) e))
asks_told (asks p) e = ap (λ (t : Told model.Request). asks_some t.value) (sym e)

pub says_asks : {q : Request} {x : Reading} → Says (Ok q) x → x ≡ asks (request_of q)
says_asks {q} {x} s = asks_told x s.says

-- what holds of each refusal of a line, with its number, holds
refused_told : (P : ℕ → Reading → Type 0) → P 4 unknown → P 5 malformed → P 6 beyond → (x : Reading) (n : ℕ) → refuses n ≡ reading_told x → P n x
refused_told P u m b unknown n e = subst (λ (k : ℕ). P k unknown) (sym (ap (λ (t : Told model.Request). t.number) e)) u
refused_told P u m b malformed n e = subst (λ (k : ℕ). P k malformed) (sym (ap (λ (t : Told model.Request). t.number) e)) m
refused_told P u m b beyond n e = subst (λ (k : ℕ). P k beyond) (sym (ap (λ (t : Told model.Request). t.number) e)) b
refused_told P u m b (asks q) n e = none_some (ap (λ (t : Told model.Request). t.value) e)

pub says_refused : {why : Refusal} {x : Reading} (P : ℕ → Reading → Type 0) → P 4 unknown → P 5 malformed → P 6 beyond → Says (Err why) x → P (number_of why) x
says_refused {why} {x} P u m b s = refused_told P u m b x (number_of why) s.says
