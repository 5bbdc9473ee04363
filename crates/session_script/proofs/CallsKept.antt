-- Each line of a client leaves a script good that is good so far.
use Rattle.std.proofs.Common.{◌≡◌, ℕ, ◌+◌, ◌<◌, ◌≤◌, Bool, true, ◌&&◌, not, List, [], ◌∷◌, ◌++◌, Option, Some, None, length, map, inl, inr, refl, ◌∙◌, ap, le_refl, subst, arith}
use Rattle.std.specs.Prelude.{Ok, is_some, nat_le, nat_lt, unwrap_or}
use Rattle.std.proofs.lemmas.List.{length-map, length_push}
use Rattle.std.proofs.lemmas.Bool.{cases_Bool, and_parts, ltb-true, leb-true}
use Rattle.orc_ids.specs.declared.limits.TheConstants.{ORDER_LIMIT, WANTED_LIMIT}
use Rattle.session_script.specs.declared.client.ClientWord.{ClientWord}
use Rattle.session_script.specs.declared.client.ClientWord.TheVariants as word
use Rattle.session_script.specs.declared.limits.TheConstants.{ARG_LIMIT, CLIENT_LIMIT, FUEL_LIMIT}
use Rattle.session_script.specs.declared.script.ClientLine.TheVariants as line
use Rattle.session_script.specs.declared.script.LookupLine.{LookupLine}
use Rattle.session_script.specs.Texts.{has, all_mentioned}
use Rattle.session_script.specs.Words.{parts, comma, is_empty, unmarked, is_name, is_symbol, at_most, number_in}
use Rattle.session_script.specs.Forms.{are_items, are_declared, item_in, order_of, is_level, level_of, are_wanted, wanted_in, fuel_in, argument_in, are_arguments}
use Rattle.session_script.specs.Known.{Known, tracker_in, name_in, with_name, with_call}
use Rattle.session_script.specs.Setup.{file_line, with_names}
use Rattle.session_script.specs.Client.{client_line, client_count, with_client, define_line, looked_up, looking_up, lookup_line, watch_line, move_line, remove_line, run_by, run_line, peek_line, call_line}
use Rattle.session_script.specs.WellFormed.{IsLookup}
use Rattle.session_script.proofs.Checks.{passed, good_part}
use Rattle.session_script.proofs.ScriptSoFar.{IsGoodSoFar, client_begun, tables_grown, call_pushed, watch_pushed}
use Rattle.session_script.proofs.SetupKept.{file_placed}

next_kept : (notes : ℕ) (k : Known) → nat_lt (client_count k) CLIENT_LIMIT ≡ true → IsGoodSoFar notes k → IsGoodSoFar notes (with_client k)
next_kept notes k room good = record {
  setup = good.setup;
  dylibs = good.dylibs;
  clients = elim (cases_Bool k.begun) [
    | inl t ↦
        let less : length k.earlier + 1 < CLIENT_LIMIT = ltb-true (length k.earlier + 1) CLIENT_LIMIT (rw t at room) in
        rw t (client_begun (length k.files) k.notes k.watches (k.earlier ++ k.current ∷ []) (omega (arith, length_push k.earlier k.current)) (rw t at good.clients))
    | inr f ↦
        let none : k.earlier ≡ [] = good.unbegun f in
        rw (f, none) (client_begun (length k.files) k.notes k.watches [] (omega arith) (rw f at good.clients))
  ];
  noted = good.noted;
  unbegun = λ other. absurd cc;
}

pub client_kept : (notes : ℕ) (k new : Known) (operands : List (List ℕ)) → IsGoodSoFar notes k → client_line k operands ≡ Ok new → IsGoodSoFar notes new
client_kept notes k new [] good read =
    let room = passed (nat_lt (client_count k) CLIENT_LIMIT) _ _ new read in
    let made : with_client k ≡ new = cc room.1 in
    subst (IsGoodSoFar notes) made (next_kept notes k room.0 good)
client_kept notes k new (_ ∷ _) good read = absurd cc

define_kept : (notes : ℕ) (k new : Known) (operands : List (List ℕ)) → k.begun ≡ true → IsGoodSoFar notes k → define_line k operands ≡ Ok new → IsGoodSoFar notes new
define_kept notes k new operands begun good read =
    let part = good_part (file_line k operands) _ new read in
    let file = file_placed notes k operands part.0 good part.1 in
    let define = line.Define (part.0.1.0) (part.0.1.1) (part.0.1.2) in
    let made : with_call (part.0.0) define ≡ new = cc part.2 in
    subst (IsGoodSoFar notes) made (call_pushed notes part.0.0 define (file.begun ∙ begun) file.file refl file.good)

-- a lookup that was read, where a note was left or none was needed
record IsLookedUp (k : Known) (leave : Bool) (p : Known × LookupLine) : Type 0 where
  known : (names : List (List ℕ)) × (with_names k names ≡ p.0)
  fits : IsLookup p.1
  noted : leave ≡ true

looked_up_well : (k : Known) (noted : Bool) (level : List ℕ) (items words : List (List ℕ)) (p : Known × LookupLine) → looked_up k noted level items words ≡ Ok p → IsLookedUp k noted p
looked_up_well k noted level items words p read =
    let named = passed (are_wanted words) _ _ p read in
    let formed = passed (is_level level && are_items items) _ _ p named.1 in
    let declared = passed (are_declared k.dylibs items) _ _ p formed.1 in
    let left = passed noted _ _ p declared.1 in
    let room = passed (nat_le (length items) ORDER_LIMIT && nat_le (length words) WANTED_LIMIT) _ _ p left.1 in
    let few = and_parts (nat_le (length items) ORDER_LIMIT) (nat_le (length words) WANTED_LIMIT) room.0 in
    let names = map unmarked words in
    let table = all_mentioned names k.names in
    let lookup : LookupLine = record { level = level_of level; order = order_of k.dylibs items; wanted = map (wanted_in table) words } in
    let made : (with_names k names, lookup) ≡ p = cc room.1 in
    subst (IsLookedUp k noted) made (record {
      known = (names, refl);
      fits = record {
        order = omega (arith, length-map items (item_in k.dylibs), leb-true (length items) ORDER_LIMIT few.0);
        wanted = omega (arith, length-map words (wanted_in table), leb-true (length words) WANTED_LIMIT few.1);
      };
      noted = left.0;
    })

looking_up_well : (k : Known) (noted : Bool) (operands : List (List ℕ)) (p : Known × LookupLine) → looking_up k noted operands ≡ Ok p → IsLookedUp k noted p
looking_up_well k noted [] p read = absurd cc
looking_up_well k noted (_ ∷ []) p read = absurd cc
looking_up_well k noted (level ∷ order ∷ words) p read =
    let some = passed (not (is_empty words)) _ _ p read in
    looked_up_well k noted level (parts comma order) words p some.1

-- where a note was left for a lookup that was read, one is left still
pub note_left : (k : Known) (operands : List (List ℕ)) (p : Known × LookupLine) → looking_up k (nat_lt k.watches k.notes) operands ≡ Ok p → p.0.watches < p.0.notes
note_left k operands p read =
    let well = looking_up_well k (nat_lt k.watches k.notes) operands p read in
    subst (λ (q : Known). q.watches < q.notes) well.known.1 (ltb-true k.watches k.notes well.noted)

lookup_kept : (notes : ℕ) (k new : Known) (operands : List (List ℕ)) → k.begun ≡ true → IsGoodSoFar notes k → lookup_line k operands ≡ Ok new → IsGoodSoFar notes new
lookup_kept notes k new operands begun good read =
    let part = good_part (looking_up k true operands) _ new read in
    let well = looking_up_well k true operands part.0 part.1 in
    let lookup = part.0.1 in
    let named : Known = with_names k well.known.0 in
    let tables = tables_grown notes k k.trackers k.files well.known.0 (le_refl (length k.files)) good in
    let made : with_call named (line.Lookup lookup) ≡ new = ap (λ (q : Known). with_call q (line.Lookup lookup)) well.known.1 ∙ cc part.2 in
    subst (IsGoodSoFar notes) made (call_pushed notes named (line.Lookup lookup) begun well.fits refl tables)

watch_kept : (notes : ℕ) (k new : Known) (operands : List (List ℕ)) → k.begun ≡ true → IsGoodSoFar notes k → watch_line k operands ≡ Ok new → IsGoodSoFar notes new
watch_kept notes k new operands begun good read =
    let part = good_part (looking_up k (nat_lt k.watches k.notes) operands) _ new read in
    let well = looking_up_well k (nat_lt k.watches k.notes) operands part.0 part.1 in
    let lookup = part.0.1 in
    let named : Known = with_names k well.known.0 in
    let tables = tables_grown notes k k.trackers k.files well.known.0 (le_refl (length k.files)) good in
    let made : with_call (record named { watches = k.watches + 1 }) (line.Watch k.watches lookup) ≡ new = ap (λ (q : Known). with_call (record q { watches = k.watches + 1 }) (line.Watch k.watches lookup)) well.known.1 ∙ cc part.2 in
    subst (IsGoodSoFar notes) made (watch_pushed notes named lookup begun well.fits (ltb-true k.watches k.notes well.noted) tables)

move_kept : (notes : ℕ) (k new : Known) (operands : List (List ℕ)) → k.begun ≡ true → IsGoodSoFar notes k → move_line k operands ≡ Ok new → IsGoodSoFar notes new
move_kept notes k new [] begun good read = absurd cc
move_kept notes k new (_ ∷ []) begun good read = absurd cc
move_kept notes k new (t ∷ to ∷ []) begun good read =
    let named = passed (is_name t && is_name to) _ _ new read in
    let known = passed (has t k.trackers && has to k.trackers) _ _ new named.1 in
    let move = line.Move (tracker_in k t) (tracker_in k to) in
    let made : with_call k move ≡ new = cc known.1 in
    subst (IsGoodSoFar notes) made (call_pushed notes k move begun tt refl good)
move_kept notes k new (_ ∷ _ ∷ _ ∷ _) begun good read = absurd cc

remove_kept : (notes : ℕ) (k new : Known) (operands : List (List ℕ)) → k.begun ≡ true → IsGoodSoFar notes k → remove_line k operands ≡ Ok new → IsGoodSoFar notes new
remove_kept notes k new [] begun good read = absurd cc
remove_kept notes k new (t ∷ []) begun good read =
    let named = passed (is_name t) _ _ new read in
    let known = passed (has t k.trackers) _ _ new named.1 in
    let remove = line.Remove (tracker_in k t) in
    let made : with_call k remove ≡ new = cc known.1 in
    subst (IsGoodSoFar notes) made (call_pushed notes k remove begun tt refl good)
remove_kept notes k new (_ ∷ _ ∷ _) begun good read = absurd cc

within_most : (most : ℕ) (number : Option ℕ) → unwrap_or (at_most most number) 0 ≤ most
within_most most None = omega arith
within_most most (Some n) = elim (cases_Bool (nat_le n most)) [
  | inl t ↦ rw t (leb-true n most t)
  | inr f ↦ rw f (omega arith)
]

run_by_kept : (notes : ℕ) (k new : Known) (name fuel : List ℕ) (words : List (List ℕ)) → length words ≤ ARG_LIMIT → k.begun ≡ true → IsGoodSoFar notes k → run_by k name fuel words ≡ Ok new → IsGoodSoFar notes new
run_by_kept notes k new name fuel words few begun good read =
    let symbol = passed (is_symbol name) _ _ new read in
    let numbers = passed (is_some (fuel_in fuel) && are_arguments words) _ _ new symbol.1 in
    let named : Known = with_name k name in
    let args = map (λ word. unwrap_or (argument_in word) 0) words in
    let run = line.Run (name_in named name) (unwrap_or (fuel_in fuel) 0) args in
    let tables = tables_grown notes k k.trackers k.files (name ∷ []) (le_refl (length k.files)) good in
    let made : with_call named run ≡ new = cc numbers.1 in
    let few_args : length args ≤ ARG_LIMIT = omega (arith, length-map words (λ word. unwrap_or (argument_in word) 0)) in
    subst (IsGoodSoFar notes) made (call_pushed notes named run begun (within_most FUEL_LIMIT (number_in 10 fuel), few_args) refl tables)

run_kept : (notes : ℕ) (k new : Known) (operands : List (List ℕ)) → k.begun ≡ true → IsGoodSoFar notes k → run_line k operands ≡ Ok new → IsGoodSoFar notes new
run_kept notes k new [] begun good read = absurd cc
run_kept notes k new (_ ∷ []) begun good read = absurd cc
run_kept notes k new (name ∷ fuel ∷ words) begun good read =
    let few = passed (nat_le (length words) ARG_LIMIT) _ _ new read in
    run_by_kept notes k new name fuel words (leb-true (length words) ARG_LIMIT few.0) begun good few.1

peek_kept : (notes : ℕ) (k new : Known) (operands : List (List ℕ)) → k.begun ≡ true → IsGoodSoFar notes k → peek_line k operands ≡ Ok new → IsGoodSoFar notes new
peek_kept notes k new [] begun good read = absurd cc
peek_kept notes k new (name ∷ []) begun good read =
    let symbol = passed (is_symbol name) _ _ new read in
    let named : Known = with_name k name in
    let peek = line.Peek (name_in named name) in
    let tables = tables_grown notes k k.trackers k.files (name ∷ []) (le_refl (length k.files)) good in
    let made : with_call named peek ≡ new = cc symbol.1 in
    subst (IsGoodSoFar notes) made (call_pushed notes named peek begun tt refl tables)
peek_kept notes k new (_ ∷ _ ∷ _) begun good read = absurd cc

pub call_kept : (notes : ℕ) (k new : Known) (first : Option ClientWord) (operands : List (List ℕ)) → k.begun ≡ true → IsGoodSoFar notes k → call_line k first operands ≡ Ok new → IsGoodSoFar notes new
call_kept notes k new (Some word.Define) operands begun good read = define_kept notes k new operands begun good read
call_kept notes k new (Some word.Lookup) operands begun good read = lookup_kept notes k new operands begun good read
call_kept notes k new (Some word.Watch) operands begun good read = watch_kept notes k new operands begun good read
call_kept notes k new (Some word.Move) operands begun good read = move_kept notes k new operands begun good read
call_kept notes k new (Some word.Remove) operands begun good read = remove_kept notes k new operands begun good read
call_kept notes k new (Some word.Run) operands begun good read = run_kept notes k new operands begun good read
call_kept notes k new (Some word.Peek) operands begun good read = peek_kept notes k new operands begun good read
call_kept notes k new None operands begun good read = absurd cc
