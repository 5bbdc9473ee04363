-- What holds of the lines that were read so far, and how one more line keeps it.
use Rattle.std.proofs.Common.{◌≡◌, ℕ, ◌+◌, ◌<◌, ◌≤◌, true, false, List, [], ◌∷◌, ◌++◌, length, All, refl, sym, ◌∙◌, ap, arith, append-nil, append_assoc, map-id}
use Rattle.std.specs.List.{range_with_len}
use Rattle.std.proofs.lemmas.List.{length_push}
use Rattle.std.proofs.lemmas.List.Concat.{flat_map-append}
use Rattle.std.proofs.lemmas.List.Elements.{All-nil, All-cons, All-head, All-tail, All-push, All-weaker}
use Rattle.std.proofs.lemmas.List.FromFn.{map-range_with_len_more}
use Rattle.orc_ids.specs.declared.limits.TheConstants.{DYLIB_LIMIT}
use Rattle.session_script.specs.declared.limits.TheConstants.{CLIENT_LIMIT}
use Rattle.session_script.specs.declared.script.SetupLine.{SetupLine}
use Rattle.session_script.specs.declared.script.SetupLine.TheVariants as setup
use Rattle.session_script.specs.declared.script.ClientLine.{ClientLine}
use Rattle.session_script.specs.declared.script.ClientLine.TheVariants as client
use Rattle.session_script.specs.declared.script.LookupLine.{LookupLine}
use Rattle.session_script.specs.Known.{Known, clients_of, name_in, with_setup, with_call}
use Rattle.session_script.specs.Texts.{has, all_mentioned}
use Rattle.session_script.specs.WellFormed.{IsLookup, IsSetupLine, IsClientLine, dylib_of, note_of, notes_of}
use Rattle.session_script.proofs.DylibsKept.{AreDylibs, HasSource, names_grown, line_read, dylib_read}

-- the clients' lines, where there are so many files and notes and so many lines watch
pub record AreClients (files notes watches : ℕ) (clients : List (List ClientLine)) : Type 0 where
  pub lines : All (All (IsClientLine files)) clients
  pub few : length clients ≤ CLIENT_LIMIT
  pub watched : notes_of clients ≡ range_with_len 0 watches
  pub enough : watches ≤ notes

pub record IsGoodSoFar (notes : ℕ) (k : Known) : Type 0 where
  pub setup : All (IsSetupLine (length k.files)) k.setup
  pub dylibs : AreDylibs k.names k.dylibs k.setup
  pub clients : AreClients (length k.files) k.notes k.watches (clients_of k)
  pub noted : k.notes ≡ notes
  pub unbegun : k.begun ≡ false → k.earlier ≡ []

-- more files leave a line good
setup_line_stays : (m n : ℕ) (line : SetupLine) → m ≤ n → IsSetupLine m line → IsSetupLine n line
setup_line_stays m n (setup.Dylib name) more good = good
setup_line_stays m n (setup.Order d order) more good = good
setup_line_stays m n (setup.Tracker d t) more good = good
setup_line_stays m n (setup.Object d t file) more good = omega arith
setup_line_stays m n (setup.Absolute d t symbols) more good = good
setup_line_stays m n (setup.Generator d t file) more good = omega arith
setup_line_stays m n (setup.Alias alias) more good = good

client_line_stays : (m n : ℕ) (line : ClientLine) → m ≤ n → IsClientLine m line → IsClientLine n line
client_line_stays m n (client.Define d t file) more good = omega arith
client_line_stays m n (client.Lookup lookup) more good = good
client_line_stays m n (client.Watch note lookup) more good = good
client_line_stays m n (client.Move t to) more good = good
client_line_stays m n (client.Remove t) more good = good
client_line_stays m n (client.Run name fuel args) more good = good
client_line_stays m n (client.Peek name) more good = good

-- once other trackers and files are known, and more names are mentioned
abbrev pub with_tables : Known → List (List ℕ) → List (List ℕ) → List (List ℕ) → Known
with_tables k trackers files names = record k { trackers = trackers; files = files; names = all_mentioned names k.names }

pub tables_grown : (notes : ℕ) (k : Known) (trackers files names : List (List ℕ)) → length k.files ≤ length files → IsGoodSoFar notes k → IsGoodSoFar notes (with_tables k trackers files names)
tables_grown notes k trackers files names more good = record {
  setup = All-weaker (IsSetupLine (length k.files)) (IsSetupLine (length files)) (λ line. setup_line_stays (length k.files) (length files) line more) k.setup good.setup;
  dylibs = names_grown names k.names k.dylibs k.setup good.dylibs;
  clients = record {
    lines = All-weaker (All (IsClientLine (length k.files))) (All (IsClientLine (length files)))
        (All-weaker (IsClientLine (length k.files)) (IsClientLine (length files)) (λ line. client_line_stays (length k.files) (length files) line more))
        (clients_of k) good.clients.lines;
    few = good.clients.few;
    watched = good.clients.watched;
    enough = good.clients.enough;
  };
  noted = good.noted;
  unbegun = good.unbegun;
}

-- a line of the setup that declares no dylib
pub setup_pushed : (notes : ℕ) (k : Known) (line : SetupLine) → IsSetupLine (length k.files) line → dylib_of line ≡ [] → HasSource (length k.dylibs) line → IsGoodSoFar notes k → IsGoodSoFar notes (with_setup k line)
setup_pushed notes k line fits none source good = record {
  setup = All-push (IsSetupLine (length k.files)) k.setup line good.setup fits;
  dylibs = line_read k.names k.dylibs k.setup line none source good.dylibs;
  clients = good.clients;
  noted = good.noted;
  unbegun = good.unbegun;
}

-- one more dylib, whose name is known
pub dylib_pushed : (notes : ℕ) (k : Known) (d : List ℕ) → has d k.names ≡ true → has d k.dylibs ≡ false → length k.dylibs < DYLIB_LIMIT → IsGoodSoFar notes k → IsGoodSoFar notes (with_setup (record k { dylibs = k.dylibs ++ d ∷ [] }) (setup.Dylib (name_in k d)))
dylib_pushed notes k d named new room good = record {
  setup = All-push (IsSetupLine (length k.files)) k.setup (setup.Dylib (name_in k d)) good.setup tt;
  dylibs = dylib_read k.names k.dylibs k.setup d named new room good.dylibs;
  clients = good.clients;
  noted = good.noted;
  unbegun = good.unbegun;
}

-- one more client, who has no line yet
pub client_begun : (files notes watches : ℕ) (clients : List (List ClientLine)) → length clients < CLIENT_LIMIT → AreClients files notes watches clients → AreClients files notes watches (clients ++ [] ∷ [])
client_begun files notes watches clients room good = record {
  lines = All-push (All (IsClientLine files)) clients [] good.lines (All-nil (IsClientLine files));
  few = omega (arith, length_push clients []);
  watched = simp (flat_map-append, append-nil) good.watched;
  enough = good.enough;
}

-- the last of a list gives way to another
last_replaced : {X : Type 0} (P : X → Type 0) (xs : List X) (x y : X) → (P x → P y) → All P (xs ++ x ∷ []) → All P (xs ++ y ∷ [])
last_replaced P [] x y step all = All-cons P y [] (step (All-head P x [] all)) (All-nil P)
last_replaced P (z ∷ zs) x y step all = All-cons P z (zs ++ y ∷ []) (All-head P z (zs ++ x ∷ []) all) (last_replaced P zs x y step (All-tail P z (zs ++ x ∷ []) all))

notes_pushed : (earlier : List (List ClientLine)) (current : List ClientLine) (line : ClientLine) → notes_of (earlier ++ (current ++ line ∷ []) ∷ []) ≡ notes_of (earlier ++ current ∷ []) ++ note_of line
notes_pushed earlier current line = simp (flat_map-append, append-nil, append_assoc) refl

-- one more line of the last client
line_pushed : (files notes watches more : ℕ) (earlier : List (List ClientLine)) (current : List ClientLine) (line : ClientLine) → IsClientLine files line → range_with_len 0 watches ++ note_of line ≡ range_with_len 0 more → more ≤ notes → AreClients files notes watches (earlier ++ current ∷ []) → AreClients files notes more (earlier ++ (current ++ line ∷ []) ∷ [])
line_pushed files notes watches more earlier current line fits watched enough good = record {
  lines = last_replaced (All (IsClientLine files)) earlier current (current ++ line ∷ []) (λ all. All-push (IsClientLine files) current line all fits) good.lines;
  few = omega (arith, good.few, length_push earlier current, length_push earlier (current ++ line ∷ []));
  watched = notes_pushed earlier current line ∙ ap (λ notes. notes ++ note_of line) good.watched ∙ watched;
  enough = enough;
}

-- a line that doesn't watch
pub call_pushed : (notes : ℕ) (k : Known) (line : ClientLine) → k.begun ≡ true → IsClientLine (length k.files) line → note_of line ≡ [] → IsGoodSoFar notes k → IsGoodSoFar notes (with_call k line)
call_pushed notes k line begun fits unnoted good = record {
  setup = good.setup;
  dylibs = good.dylibs;
  clients =
      let same : range_with_len 0 k.watches ++ note_of line ≡ range_with_len 0 k.watches = rw unnoted (append-nil (range_with_len 0 k.watches)) in
      rw begun (line_pushed (length k.files) k.notes k.watches k.watches k.earlier k.current line fits same good.clients.enough (rw begun at good.clients));
  noted = good.noted;
  unbegun = λ other. absurd cc;
}

one_more : (n : ℕ) → range_with_len 0 n ++ n ∷ [] ≡ range_with_len 0 (n + 1)
one_more n = sym (simp map-id at (map-range_with_len_more (λ (x : ℕ). x) 0 n n (omega arith)))

pub watch_pushed : (notes : ℕ) (k : Known) (lookup : LookupLine) → k.begun ≡ true → IsLookup lookup → k.watches < k.notes → IsGoodSoFar notes k → IsGoodSoFar notes (with_call (record k { watches = k.watches + 1 }) (client.Watch k.watches lookup))
watch_pushed notes k lookup begun fits room good = record {
  setup = good.setup;
  dylibs = good.dylibs;
  clients = rw begun (line_pushed (length k.files) k.notes k.watches (k.watches + 1) k.earlier k.current (client.Watch k.watches lookup) fits (one_more k.watches) (omega arith) (rw begun at good.clients));
  noted = good.noted;
  unbegun = λ other. absurd cc;
}
