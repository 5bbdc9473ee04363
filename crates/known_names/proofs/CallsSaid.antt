-- Each line of a client says names of the table.
use Rattle.std.proofs.Common.{◌≡◌, ℕ, ◌+◌, ◌<◌, Bool, true, ◌&&◌, not, if◌then◌else◌, List, [], ◌∷◌, ◌++◌, Option, Some, None, length, map, All, inl, inr, refl, ◌∙◌, ap, subst}
use Rattle.std.specs.Prelude.{Ok, is_some, nat_le, nat_lt, unwrap_or}
use Rattle.std.proofs.lemmas.Bool.{cases_Bool}
use Rattle.std.proofs.lemmas.List.Elements.{All-map, All-nil, All-push, All-weaker}
use Rattle.orc_ids.specs.declared.limits.TheConstants.{ORDER_LIMIT, WANTED_LIMIT}
use Rattle.orc_ids.specs.declared.lookup.Wanted.{Wanted}
use Rattle.journal_text.specs.Parts.{IsGiven}
use Rattle.session_script.specs.declared.client.ClientWord.{ClientWord}
use Rattle.session_script.specs.declared.client.ClientWord.TheVariants as word
use Rattle.session_script.specs.declared.limits.TheConstants.{ARG_LIMIT, CLIENT_LIMIT}
use Rattle.session_script.specs.declared.script.ClientLine.TheVariants as line
use Rattle.session_script.specs.declared.script.LookupLine.{LookupLine}
use Rattle.session_script.specs.Texts.{has, number_of, mentioned, all_mentioned}
use Rattle.session_script.specs.Words.{parts, comma, is_empty, unmarked, is_name, is_symbol}
use Rattle.session_script.specs.Forms.{are_items, are_declared, order_of, is_level, level_of, are_wanted, wanted_in, fuel_in, argument_in, are_arguments}
use Rattle.session_script.specs.Known.{Known, tracker_in, name_in, with_name, with_call}
use Rattle.session_script.specs.Setup.{file_line, with_names}
use Rattle.session_script.specs.Client.{client_line, client_count, define_line, looked_up, looking_up, lookup_line, watch_line, move_line, remove_line, run_by, run_line, peek_line, call_line}
use Rattle.session_script.proofs.Checks.{passed, good_part}
use Rattle.session_script.proofs.NamesApart.{number_within}
use Rattle.session_script.proofs.TextNumbers.{has_itself}
use Rattle.known_names.specs.Said.{KnownCall}
use Rattle.known_names.proofs.SaidSoFar.{SaysSoFar, all_there, names_said, call_said}
use Rattle.known_names.proofs.SetupSaid.{file_line_said}

-- once one more client begins
abbrev begun_next : Known → Known
begun_next k = record k { begun = true; earlier = if k.begun then k.earlier ++ k.current ∷ [] else k.earlier; current = [] }

next_said : (k : Known) → SaysSoFar k → SaysSoFar (begun_next k)
next_said k said = record {
  setup = said.setup;
  earlier = elim (cases_Bool k.begun) [
    | inl t ↦ rw t (All-push (All (KnownCall k.names)) k.earlier k.current said.earlier said.current)
    | inr f ↦ rw f said.earlier
  ];
  current = All-nil (KnownCall k.names);
  dylibs = said.dylibs;
  files = said.files;
}

pub client_line_said : (k new : Known) (operands : List (List ℕ)) → SaysSoFar k → client_line k operands ≡ Ok new → SaysSoFar new
client_line_said k new [] said read =
    let room = passed (nat_lt (client_count k) CLIENT_LIMIT) _ _ new read in
    let made : begun_next k ≡ new = cc room.1 in
    subst SaysSoFar made (next_said k said)
client_line_said k new (_ ∷ _) said read = absurd cc

define_line_said : (k new : Known) (operands : List (List ℕ)) → SaysSoFar k → define_line k operands ≡ Ok new → SaysSoFar new
define_line_said k new operands said read =
    let part = good_part (file_line k operands) _ new read in
    let define = line.Define (part.0.1.0) (part.0.1.1) (part.0.1.2) in
    let made : with_call (part.0.0) define ≡ new = cc part.2 in
    subst SaysSoFar made (call_said part.0.0 define tt (file_line_said k operands part.0 said part.1))

-- a lookup whose names were mentioned
record IsNamed (k : Known) (p : Known × LookupLine) : Type 0 where
  names : List (List ℕ)
  known : with_names k names ≡ p.0
  given : All (λ (w : Wanted). IsGiven (all_mentioned names k.names) w.name) p.1.wanted

wanted_given : (k : Known) (words : List (List ℕ)) → All (λ (w : Wanted). IsGiven (all_mentioned (map unmarked words) k.names) w.name) (map (wanted_in (all_mentioned (map unmarked words) k.names)) words)
wanted_given k words =
    let table = all_mentioned (map unmarked words) k.names in
    All-map (λ (w : Wanted). IsGiven table w.name) (wanted_in table) words
    (All-weaker (λ w. has (unmarked w) table ≡ true) (λ w. number_of (unmarked w) table < length table) (λ w. number_within (unmarked w) table) words (all_there unmarked words k.names))

looked_up_named : (k : Known) (noted : Bool) (level : List ℕ) (items words : List (List ℕ)) (p : Known × LookupLine) → looked_up k noted level items words ≡ Ok p → IsNamed k p
looked_up_named k noted level items words p read =
    let named = passed (are_wanted words) _ _ p read in
    let formed = passed (is_level level && are_items items) _ _ p named.1 in
    let declared = passed (are_declared k.dylibs items) _ _ p formed.1 in
    let left = passed noted _ _ p declared.1 in
    let room = passed (nat_le (length items) ORDER_LIMIT && nat_le (length words) WANTED_LIMIT) _ _ p left.1 in
    let names = map unmarked words in
    let lookup : LookupLine = record { level = level_of level; order = order_of k.dylibs items; wanted = map (wanted_in (all_mentioned names k.names)) words } in
    let made : (with_names k names, lookup) ≡ p = cc room.1 in
    subst (IsNamed k) made (record { names = names; known = refl; given = wanted_given k words })

looking_up_named : (k : Known) (noted : Bool) (operands : List (List ℕ)) (p : Known × LookupLine) → looking_up k noted operands ≡ Ok p → IsNamed k p
looking_up_named k noted [] p read = absurd cc
looking_up_named k noted (_ ∷ []) p read = absurd cc
looking_up_named k noted (level ∷ order ∷ words) p read =
    let some = passed (not (is_empty words)) _ _ p read in
    looked_up_named k noted level (parts comma order) words p some.1

lookup_line_said : (k new : Known) (operands : List (List ℕ)) → SaysSoFar k → lookup_line k operands ≡ Ok new → SaysSoFar new
lookup_line_said k new operands said read =
    let part = good_part (looking_up k true operands) _ new read in
    let is = looking_up_named k true operands part.0 part.1 in
    let lookup = line.Lookup (part.0.1) in
    let named : Known = with_names k is.names in
    let made : with_call named lookup ≡ new = ap (λ (q : Known). with_call q lookup) is.known ∙ cc part.2 in
    subst SaysSoFar made (call_said named lookup is.given (names_said k is.names said))

-- the count of the lines that watch says no name
watched_said : (k : Known) (watches : ℕ) → SaysSoFar k → SaysSoFar (record k { watches = watches })
watched_said k watches said = record { setup = said.setup; earlier = said.earlier; current = said.current; dylibs = said.dylibs; files = said.files }

watch_line_said : (k new : Known) (operands : List (List ℕ)) → SaysSoFar k → watch_line k operands ≡ Ok new → SaysSoFar new
watch_line_said k new operands said read =
    let part = good_part (looking_up k (nat_lt k.watches k.notes) operands) _ new read in
    let is = looking_up_named k (nat_lt k.watches k.notes) operands part.0 part.1 in
    let watch = line.Watch k.watches (part.0.1) in
    let named : Known = with_names k is.names in
    let made : with_call (record named { watches = k.watches + 1 }) watch ≡ new = ap (λ (q : Known). with_call (record q { watches = k.watches + 1 }) watch) is.known ∙ cc part.2 in
    subst SaysSoFar made (call_said (record named { watches = k.watches + 1 }) watch is.given (watched_said named (k.watches + 1) (names_said k is.names said)))

move_line_said : (k new : Known) (operands : List (List ℕ)) → SaysSoFar k → move_line k operands ≡ Ok new → SaysSoFar new
move_line_said k new [] said read = absurd cc
move_line_said k new (_ ∷ []) said read = absurd cc
move_line_said k new (t ∷ to ∷ []) said read =
    let named = passed (is_name t && is_name to) _ _ new read in
    let known = passed (has t k.trackers && has to k.trackers) _ _ new named.1 in
    let move = line.Move (tracker_in k t) (tracker_in k to) in
    let made : with_call k move ≡ new = cc known.1 in
    subst SaysSoFar made (call_said k move tt said)
move_line_said k new (_ ∷ _ ∷ _ ∷ _) said read = absurd cc

remove_line_said : (k new : Known) (operands : List (List ℕ)) → SaysSoFar k → remove_line k operands ≡ Ok new → SaysSoFar new
remove_line_said k new [] said read = absurd cc
remove_line_said k new (t ∷ []) said read =
    let named = passed (is_name t) _ _ new read in
    let known = passed (has t k.trackers) _ _ new named.1 in
    let remove = line.Remove (tracker_in k t) in
    let made : with_call k remove ≡ new = cc known.1 in
    subst SaysSoFar made (call_said k remove tt said)
remove_line_said k new (_ ∷ _ ∷ _) said read = absurd cc

run_by_said : (k new : Known) (name fuel : List ℕ) (words : List (List ℕ)) → SaysSoFar k → run_by k name fuel words ≡ Ok new → SaysSoFar new
run_by_said k new name fuel words said read =
    let symbol = passed (is_symbol name) _ _ new read in
    let numbers = passed (is_some (fuel_in fuel) && are_arguments words) _ _ new symbol.1 in
    let named : Known = with_name k name in
    let run = line.Run (name_in named name) (unwrap_or (fuel_in fuel) 0) (map (λ word. unwrap_or (argument_in word) 0) words) in
    let made : with_call named run ≡ new = cc numbers.1 in
    subst SaysSoFar made (call_said named run (number_within name (mentioned name k.names) (has_itself name k.names)) (names_said k (name ∷ []) said))

run_line_said : (k new : Known) (operands : List (List ℕ)) → SaysSoFar k → run_line k operands ≡ Ok new → SaysSoFar new
run_line_said k new [] said read = absurd cc
run_line_said k new (_ ∷ []) said read = absurd cc
run_line_said k new (name ∷ fuel ∷ words) said read =
    let few = passed (nat_le (length words) ARG_LIMIT) _ _ new read in
    run_by_said k new name fuel words said few.1

peek_line_said : (k new : Known) (operands : List (List ℕ)) → SaysSoFar k → peek_line k operands ≡ Ok new → SaysSoFar new
peek_line_said k new [] said read = absurd cc
peek_line_said k new (name ∷ []) said read =
    let symbol = passed (is_symbol name) _ _ new read in
    let named : Known = with_name k name in
    let peek = line.Peek (name_in named name) in
    let made : with_call named peek ≡ new = cc symbol.1 in
    subst SaysSoFar made (call_said named peek (number_within name (mentioned name k.names) (has_itself name k.names)) (names_said k (name ∷ []) said))
peek_line_said k new (_ ∷ _ ∷ _) said read = absurd cc

pub call_line_said : (k new : Known) (first : Option ClientWord) (operands : List (List ℕ)) → SaysSoFar k → call_line k first operands ≡ Ok new → SaysSoFar new
call_line_said k new (Some word.Define) operands said read = define_line_said k new operands said read
call_line_said k new (Some word.Lookup) operands said read = lookup_line_said k new operands said read
call_line_said k new (Some word.Watch) operands said read = watch_line_said k new operands said read
call_line_said k new (Some word.Move) operands said read = move_line_said k new operands said read
call_line_said k new (Some word.Remove) operands said read = remove_line_said k new operands said read
call_line_said k new (Some word.Run) operands said read = run_line_said k new operands said read
call_line_said k new (Some word.Peek) operands said read = peek_line_said k new operands said read
call_line_said k new None operands said read = absurd cc
