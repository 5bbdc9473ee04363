-- The calls of a client's lines speak of known names, and so do the ends of the lines where the replies do.
use Rattle.std.proofs.Common.{ℕ, List, [], ◌∷◌, ◌++◌, Option, Some, None, sym, subst}
use Rattle.std.specs.Bool.{⊤}
use Rattle.std.specs.List.{AllByRecursion}
use Rattle.exec_run.specs.declared.ran.RunEnd.{RunEnd}
use Rattle.session_laws.proofs.Declared.{all_appended}
use Rattle.session_laws.specs.Entries.{entries}
use Rattle.session_model.specs.Calls.{Lookup}
use Rattle.session_model.specs.Meaning.{Meaning}
use Rattle.session_model.specs.declared.entry.Entry.{Entry}
use Rattle.session_model.specs.declared.entry.Event.{Event}
use Rattle.session_model.specs.declared.entry.Reply.{Reply}
use Rattle.session_model.specs.declared.entry.Reply.TheVariants as reply
use Rattle.journal_text.specs.Replies.{KnownReply}
use Rattle.session_model.proofs.Stopping.{stopped_begins}
use Rattle.session_model.specs.Ends.{EndsAs, LastIs}
use Rattle.session_model.specs.declared.look_end.LookEnd.{LookEnd}
use Rattle.session_model.specs.declared.look_end.LookEnd.TheVariants as look
use Rattle.script_model.specs.Given.{Given, address_of}
use Rattle.script_model.specs.Asking.{Line, One, LookUp, Run, PeekAt}
use Rattle.run_laws.specs.Runs.{IsCopy}
use Rattle.script_model.specs.Lines.{AreLines, AreSkipped, AtEnd, CallsOf, CopiesAndRuns, Goes, IsLine, OneCall, Stops, given_by}
use Rattle.script_model.specs.declared.line_end.LineEnd.{LineEnd}
use Rattle.script_model.specs.declared.line_end.LineEnd.TheVariants.{Looked, Peeked, Ran, Replied, Skipped, Unfound}
use Rattle.result_text.specs.Known.{KnownEnd, KnownLook}
use Rattle.known_names.specs.Speaking.{Speaks}
use Rattle.known_names.proofs.Seats.{IsNamed}
use Rattle.known_names.proofs.Speaking.{copies_speak, front, joined, looks_speak, none, plain_says}
use Rattle.session_command.proofs.Asked.{IsNamedLine}

-- The calls of a line

one_speaks : (names : List (List ℕ)) (P : Type 0) (e : Event Meaning) (r : Reply) (cs : List (ℕ × Entry Meaning)) → IsNamed names e → OneCall e r cs → Speaks names P (entries cs)
one_speaks names P e r cs named p = subst (λ l. Speaks names P (entries l)) (sym p.2) (plain_says names P p.1.event e p.3 named.0 named.1, tt)

copy_speaks : (names : List (List ℕ)) (P : Type 0) (cs : List (ℕ × Entry Meaning)) → IsCopy cs → Speaks names P (entries cs)
copy_speaks names P [] is = absurd is
copy_speaks names P (c ∷ []) is = copies_speak names P (c ∷ []) (is, tt)
copy_speaks names P (c ∷ d ∷ cs) is = absurd is

run_speaks : (names : List (List ℕ)) (P : Type 0) (h : List (Entry Meaning)) (address : Option ℕ) (fuel : ℕ) (args : List ℕ) (end : RunEnd) (output : List ℕ) (cs : List (ℕ × Entry Meaning)) → CopiesAndRuns h address fuel args end output cs → Speaks names P (entries cs)
run_speaks names P h None fuel args end output cs ran = absurd ran
run_speaks names P h (Some address) fuel args end output [] ran = absurd ran
run_speaks names P h (Some address) fuel args end output (c ∷ []) ran = copies_speak names P (c ∷ []) (ran.0, tt)
run_speaks names P h (Some address) fuel args end output (c ∷ d ∷ cs) ran = absurd ran

one_line_speaks : (names : List (List ℕ)) (P : Type 0) (h : List (Entry Meaning)) (given : Given) (e : Event Meaning) (end : LineEnd) (cs : List (ℕ × Entry Meaning)) → IsNamed names e → IsLine h given (One e) end cs → Speaks names P (entries cs)
one_line_speaks names P h given e (Replied r) cs named is = one_speaks names P e r cs named is
one_line_speaks names P h given e _ cs named is = absurd is

lookup_line_speaks : (names : List (List ℕ)) (P : Type 0) (h : List (Entry Meaning)) (given : Given) (l : Lookup) (end : LineEnd) (cs : List (ℕ × Entry Meaning)) → IsNamedLine names (LookUp l) → IsLine h given (LookUp l) end cs → Speaks names P (entries cs)
lookup_line_speaks names P h given l (Looked end) cs named is = looks_speak names h l named P cs is.0
lookup_line_speaks names P h given l _ cs named is = absurd is

run_line_speaks : (names : List (List ℕ)) (P : Type 0) (h : List (Entry Meaning)) (given : Given) (line : Line) (end : LineEnd) (cs : List (ℕ × Entry Meaning)) → IsNamedLine names line → IsLine h given line end cs → Speaks names P (entries cs)
run_line_speaks names P h given (One e) end cs named is = one_line_speaks names P h given e end cs named is
run_line_speaks names P h given (LookUp l) end cs named is = lookup_line_speaks names P h given l end cs named is
run_line_speaks names P h given (Run name fuel args) Unfound cs named is = subst (λ l. Speaks names P (entries l)) (sym is.1) tt
run_line_speaks names P h given (Run name fuel args) (Ran end output) cs named is = run_speaks names P h (address_of name given) fuel args end output cs is
run_line_speaks names P h given (Run name fuel args) _ cs named is = absurd is
run_line_speaks names P h given (PeekAt name) (Peeked told) cs named is = subst (λ l. Speaks names P (entries l)) (sym is.1) tt
run_line_speaks names P h given (PeekAt name) _ cs named is = absurd is

calls_speak : (names : List (List ℕ)) (P : Type 0) (h : List (Entry Meaning)) (given : Given) (line : Line) (cs : List (ℕ × Entry Meaning)) → IsNamedLine names line → CallsOf h given line cs → Speaks names P (entries cs)
calls_speak names P h given (One e) cs named is = one_speaks names P e is.0 cs named is.1
calls_speak names P h given (LookUp l) cs named is = looks_speak names h l named P cs is
calls_speak names P h given (Run name fuel args) cs named is = copy_speaks names P cs is.2
calls_speak names P h given (PeekAt name) cs named is = absurd is

pub lines_speak : (names : List (List ℕ)) (h : List (Entry Meaning)) (given : Given) (lines : List Line) (ends : List LineEnd) (cs : List (ℕ × Entry Meaning)) → AllByRecursion (IsNamedLine names) lines → AreLines h given lines ends cs → Speaks names ⊤ (entries cs)
lines_speak names h given lines ends cs named (AtEnd g) = tt
lines_speak names h given lines ends cs named (Goes g line more end later now after is goes) = joined names ⊤ now after
    (run_line_speaks names ⊤ h g line end now named.0 is)
    (lines_speak names h (given_by line end ++ g) more later after named.1 goes)
lines_speak names h given lines ends cs named (Stops g line more st skipped now stopped none) =
    let s = stopped_begins (CallsOf h g line) now st stopped in
    front names ⊤ now s.rest (calls_speak names ⊤ h g line (now ++ s.rest) named.0 s.would)

-- The end of a line

abbrev Replies : List (List ℕ) → ℕ × Entry Meaning → Type 0
Replies names c = KnownReply names c.1.reply

last_known : (names : List (List ℕ)) (cs : List (ℕ × Entry Meaning)) (r : Reply) → AllByRecursion (Replies names) cs → LastIs cs r → KnownReply names r
last_known names cs r known is = subst (KnownReply names) is.reply (all_appended (Replies names) is.before ((is.number, is.entry) ∷ []) (subst (AllByRecursion (Replies names)) is.are known)).1.0

look_known : (names : List (List ℕ)) (end : LookEnd) (cs : List (ℕ × Entry Meaning)) → AllByRecursion (Replies names) cs → EndsAs end cs → KnownLook names end
look_known names (look.Missing name) cs known is = last_known names cs (reply.Missing name) known is
look_known names _ cs known is = tt

one_known : (names : List (List ℕ)) (e : Event Meaning) (r : Reply) (cs : List (ℕ × Entry Meaning)) → AllByRecursion (Replies names) cs → OneCall e r cs → KnownReply names r
one_known names e r cs known p = subst (KnownReply names) p.4 (subst (AllByRecursion (Replies names)) p.2 known).0

end_known : (names : List (List ℕ)) (h : List (Entry Meaning)) (given : Given) (line : Line) (end : LineEnd) (cs : List (ℕ × Entry Meaning)) → AllByRecursion (Replies names) cs → IsLine h given line end cs → KnownEnd names end
end_known names h given (One e) (Replied r) cs known is = one_known names e r cs known is
end_known names h given (LookUp l) (Replied r) cs known is = absurd is
end_known names h given (Run name fuel args) (Replied r) cs known is = absurd is
end_known names h given (PeekAt name) (Replied r) cs known is = absurd is
end_known names h given (One e) (Looked end) cs known is = absurd is
end_known names h given (LookUp l) (Looked end) cs known is = look_known names end cs known is.1
end_known names h given (Run name fuel args) (Looked end) cs known is = absurd is
end_known names h given (PeekAt name) (Looked end) cs known is = absurd is
end_known names h given line _ cs known is = tt

pub skipped_known : (names : List (List ℕ)) (lines : List Line) (ends : List LineEnd) → AreSkipped lines ends → AllByRecursion (KnownEnd names) ends
skipped_known names [] [] are = tt
skipped_known names (line ∷ lines) (Skipped ∷ ends) are = (tt, skipped_known names lines ends are)
skipped_known names _ _ are = absurd are

pub ends_known : (names : List (List ℕ)) (h : List (Entry Meaning)) (given : Given) (lines : List Line) (ends : List LineEnd) (cs : List (ℕ × Entry Meaning)) → AllByRecursion (Replies names) cs → AreLines h given lines ends cs → AllByRecursion (KnownEnd names) ends
ends_known names h given lines ends cs known (AtEnd g) = tt
ends_known names h given lines ends cs known (Goes g line more end later now after is goes) =
    let parts = all_appended (Replies names) now after known in
    (end_known names h g line end now parts.0 is, ends_known names h (given_by line end ++ g) more later after parts.1 goes)
ends_known names h given lines ends cs known (Stops g line more st skipped now stopped none) = (tt, skipped_known names more skipped none)
