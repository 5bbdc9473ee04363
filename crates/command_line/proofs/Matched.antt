-- What a parse says of the words.
use Rattle.std.proofs.Common.{◌≡◌, ◌≢◌, ℕ, Bool, true, false, List, [], ◌∷◌, inl, inr, refl, sym, subst, ap, ◌∙◌, Some, None}
use Rattle.std.proofs.lemmas.Bool.{and_parts, both_ways}
use Rattle.clap.specs.Faults.{is_free_app}
use Rattle.clap.specs.Words.{App, built, HasKind, IsAmong, Kinds, Row, fault_of, is_simple, is_simple_and_free, kind_of, matches_of}
use Rattle.clap.specs.declared.error.Error.{Error}
use Rattle.clap.specs.declared.error.kind.ErrorKind.{ErrorKind}
use Rattle.clap.specs.declared.error.kind.ErrorKind.TheVariants.{OutOfMemory}
use Rattle.command_line.specs.declared.error.CommandError.{CommandError}
use Rattle.command_line.specs.declared.error.CommandError.TheVariants.{Usage, NoMemory}
use Rattle.command_line.specs.declared.error.UsageKind.TheVariants.{BadWords}
use Rattle.command_line.specs.Answers.{Refuses}
use Rattle.command_line.specs.Words.{matched, unless_faulty}

pub simple_part : (app : App) → is_simple_and_free app ≡ true → is_simple app ≡ true
simple_part app h = (and_parts (is_simple app) (is_free_app (built app)) h).0

abbrev is_memory : ErrorKind → Bool
is_memory OutOfMemory = true
is_memory _ = false

memory_is : (k : ErrorKind) → is_memory k ≡ true → k ≡ OutOfMemory
memory_is OutOfMemory is = refl
memory_is k is = cc

is_matched : (app : App) (words : List (List ℕ)) → matched app words ≡ unless_faulty (fault_of app words) (matches_of app words)
unfolding matched
is_matched app words = refl

none_of : (k : ErrorKind) (kinds : Kinds) (rows : List Row) → IsAmong k kinds → unless_faulty kinds rows ≡ None
none_of k [] rows among = absurd among
none_of k (x ∷ xs) rows among = refl

all_of_none : (kinds : Kinds) (rows found : List Row) → kinds ≡ [] → found ≡ rows → unless_faulty kinds rows ≡ Some found
all_of_none kinds rows found none are = ap (λ ks. unless_faulty ks rows) none ∙ ap Some (sym are)

-- words without a fault are matched
pub fault_free : (app : App) (words : List (List ℕ)) (rows : List Row) → fault_of app words ≡ [] → rows ≡ matches_of app words → matched app words ≡ Some rows
fault_free app words rows none are = is_matched app words ∙ all_of_none (fault_of app words) (matches_of app words) rows none are

-- words with a fault aren't
by_kinds : (app : App) (words : List (List ℕ)) (k : ErrorKind) (kinds : Kinds) → fault_of app words ≡ kinds → IsAmong k kinds → matched app words ≡ None
by_kinds app words k kinds is among = is_matched app words ∙ ap (λ ks. unless_faulty ks (matches_of app words)) is ∙ none_of k kinds (matches_of app words) among

-- the error that is given says so
by_error : (app : App) (words : List (List ℕ)) (k : ErrorKind) (why : CommandError) (t : Bool) → is_memory k ≡ t → (k ≡ OutOfMemory → why ≡ NoMemory) → (k ≢ OutOfMemory → why ≡ Usage BadWords) → matched app words ≡ None → Refuses (matched app words) why
by_error app words k why true is memory other none = subst (Refuses (matched app words)) (sym (memory (memory_is k is))) tt
by_error app words k why false is memory other none = subst (Refuses (matched app words)) (sym (other (λ m. both_ways (is_memory k) is (ap is_memory m)))) none

pub refused : (app : App) (words : List (List ℕ)) (e : Error) (why : CommandError) (kinds : Kinds) → fault_of app words ≡ kinds → HasKind kinds e → (kind_of e ≡ OutOfMemory → why ≡ NoMemory) → (kind_of e ≢ OutOfMemory → why ≡ Usage BadWords) → Refuses (matched app words) why
refused app words e why kinds is (inl m) memory other = subst (Refuses (matched app words)) (sym (memory m)) tt
refused app words e why kinds is (inr among) memory other = by_error app words (kind_of e) why (is_memory (kind_of e)) refl memory other (by_kinds app words (kind_of e) kinds is among)
