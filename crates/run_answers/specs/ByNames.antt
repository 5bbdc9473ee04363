-- The statically linked program of the files of a run: a name stands for its definition among them.
use Rattle.std.specs.Prelude.{ℕ, List, []}
use Rattle.link_model.specs.declared.graph.LinkGraph.{LinkGraph}
use Rattle.rv_hart.specs.Map.{Map}
use Rattle.exec_run.specs.Larger.{Stays}
use Rattle.exec_run.specs.Run.{RunsTo}
use Rattle.exec_run.specs.declared.ran.RunEnd.{RunEnd}
use Rattle.session_model.specs.Meaning.{Meaning}
use Rattle.session_model.specs.State.{state}
use Rattle.session_model.specs.declared.entry.Entry.{Entry}
use Rattle.static_links.specs.Links.{IsLinkedProgram, Member}
use Rattle.memory_laws.specs.Programs.{bases_of, name_spot, program_members, spots_by_name}
use Rattle.run_answers.specs.Sessions.{AreOfWords}

-- the members of the program where a history placed them
abbrev pub members_at : List LinkGraph → List (Entry Meaning) → List Member
members_at graphs h = program_members graphs (bases_of (state h).units)

-- The run of the statically linked program of the words' files from the entry, with this fuel, touches nothing beside the
-- program, and ends so with this output. The objects lie where the history h placed them.
pub record IsProgramRun (words : List (List ℕ)) (file_graphs : List LinkGraph) (entry fuel : ℕ) (h : List (Entry Meaning)) (end : RunEnd) (output : List ℕ) : Type 0 where
  pub graphs : List LinkGraph
  pub are : AreOfWords words file_graphs graphs
  pub program : Map
  pub linked : IsLinkedProgram (members_at graphs h) (spots_by_name graphs (members_at graphs h)) (name_spot graphs (members_at graphs h) entry).block program
  pub stays : Stays program (name_spot graphs (members_at graphs h) entry).address [] fuel
  pub runs : RunsTo program (name_spot graphs (members_at graphs h) entry).address [] fuel end output
