-- From a command to the app that it is.
use Rattle.std.proofs.Common.{ap, subst, sym, refl, true, false, List, [], ◌∷◌, ◌≡◌, ◌≢◌, ◌∙◌}
use Rattle.clap.specs.Words.{App, HasKind, IsAmong, Kinds, Text, fault_of, is_simple_and_free, kind_of}
use Rattle.clap.specs.declared.error.Error.{Error}
use Rattle.clap.specs.declared.error.kind.ErrorKind.TheVariants as kind
use Rattle.std.proofs.Common.{inl, inr}
use Rattle.psac_command.specs.Words.{is_free}

pub takes_as : (a b : App) (words : List Text) → a ≡ b → is_simple_and_free b ≡ true
    → (is_simple_and_free a ≡ true → fault_of a words ≡ []) → fault_of b words ≡ []
takes_as a b words same free at_ok =
    ap (λ (x : App). fault_of x words) (sym same) ∙ at_ok (ap is_simple_and_free same ∙ free)

none_left : (kinds : Kinds) (e : Error) → kinds ≡ [] → HasKind kinds e → kind_of e ≢ kind.OutOfMemory → ⊥
none_left kinds e none (inl memory) other = other memory
none_left kinds e none (inr among) other = subst (λ (ks : Kinds). IsAmong (kind_of e) ks) none among

pub refuses_as : (a b : App) (words : List Text) (e : Error) → a ≡ b → is_simple_and_free b ≡ true
    → (is_simple_and_free a ≡ true → HasKind (fault_of a words) e) → kind_of e ≢ kind.OutOfMemory → fault_of b words ≡ [] → ⊥
refuses_as a b words e same free at_err other none =
    none_left (fault_of a words) e (ap (λ (x : App). fault_of x words) same ∙ none) (at_err (ap is_simple_and_free same ∙ free)) other

-- the form of the words, as a truth
pub taken_is : (kinds : Kinds) → kinds ≡ [] → is_free kinds ≡ true
taken_is kinds none = ap is_free none

pub refused_is : (kinds : Kinds) → (kinds ≡ [] → ⊥) → is_free kinds ≡ false
refused_is [] some = absurd (some refl)
refused_is (kind ∷ kinds) some = refl
