use Rattle.std.proofs.Common.{rules, map, ℕ, ◌+◌, [], refl, ◌∙◌, arith, get_or}
use Rattle.list_laws.proofs.Lists.{mapped_below}
use Rattle.session_units.specs.Units.{meaning_of}
use Rattle.object_files.proofs.Readings.{none_read, next_read, stops_reading, memory_stops_reading}
use Rattle.object_files.proofs.SoFar.{none_so_far, next_number, one_more_unit, memory_stops, next_stops}
use Rattle.object_files.proofs.load.load_files.Goals as goal

pub loop-name-init : goal.loop-name-init
loop-name-init g c = record {
  taken = rw c.new-units.ensures.items (none_so_far (g.F.Files.holds c.args.files.now) (map (λ w. w.now) c.args.file_names.now) c.args.names.now);
  older = λ n text there. there;
  counted = omega arith;
  same = refl;
  read = none_read _;
}

pub returns-in_err-number-clause-stopped : goal.returns-in_err-number-clause-stopped
returns-in_err-number-clause-stopped g c = memory_stops _ _ _ _ c.from_residual.result (search rules)

pub returns-in_err-unit-clause-stopped : goal.returns-in_err-unit-clause-stopped
returns-in_err-unit-clause-stopped g c =
    let ws = c.args.file_names.now in
    let i : ℕ = c.loop-name.name-index in
    let so = c.loop-name.invariant.taken in
    next_stops (g.F.Files.holds c.args.files.now) (g.F.Files.holds c.loop-name.files) (map (λ w. w.now) ws) c.loop-name.names (map meaning_of c.loop-name.units.items)
    (g.F.Files.faults c.args.files.now) (g.F.Files.faults c.loop-name.files) (g.F.Files.faults c.next_unit.new.files) i c.in_ok-number.number c.loop-name.total (get_or ws i (record { ref_ptr = (0, 0); now = [] })).now c.from_residual-in_err-unit.result
    so c.loop-name.invariant.same
    (next_number _ _ _ c.loop-name.units.items i c.loop-name.total c.in_ok-number.number so (omega (arith, c.in_ok-number.ensures, c.len.ensures, c.loop-name.units.ok)))
    (mapped_below (λ w. w.now) ws i (record { ref_ptr = (0, 0); now = [] }) (omega arith)) c.loop-name.invariant.counted (search rules)

pub returns-in_err-push-clause-stopped : goal.returns-in_err-push-clause-stopped
returns-in_err-push-clause-stopped g c = memory_stops _ _ _ _ c.from_residual-in_err-push.result (search rules)

pub returns-in_err-push-clause-older : goal.returns-in_err-push-clause-older
returns-in_err-push-clause-older g c = λ n text there. c.next_unit.ensures.older n text (c.loop-name.invariant.older n text there)

pub returns-in_err-number-clause-read_until : goal.returns-in_err-number-clause-read_until
returns-in_err-number-clause-read_until g c = memory_stops_reading _ _ _ _ c.from_residual.result c.loop-name.invariant.read (search rules)

pub returns-in_err-unit-clause-read_until : goal.returns-in_err-unit-clause-read_until
returns-in_err-unit-clause-read_until g c =
    let ws = c.args.file_names.now in
    let i : ℕ = c.loop-name.name-index in
    let so = c.loop-name.invariant.taken in
    stops_reading (g.F.Files.holds c.loop-name.files) (g.F.Files.faults c.loop-name.files) (g.F.Files.faults c.next_unit.new.files) c.loop-name.total (map (λ w. w.now) ws) c.in_ok-number.number i
    (get_or ws i (record { ref_ptr = (0, 0); now = [] })).now _ _ _ c.from_residual-in_err-unit.result
    (next_number _ _ _ c.loop-name.units.items i c.loop-name.total c.in_ok-number.number so (omega (arith, c.in_ok-number.ensures, c.len.ensures, c.loop-name.units.ok)))
    (mapped_below (λ w. w.now) ws i (record { ref_ptr = (0, 0); now = [] }) (omega arith)) c.loop-name.invariant.read (search rules) (search rules)

pub returns-in_err-push-clause-read_until : goal.returns-in_err-push-clause-read_until
returns-in_err-push-clause-read_until g c =
    let ws = c.args.file_names.now in
    let i : ℕ = c.loop-name.name-index in
    memory_stops_reading _ (i + 1) _ _ c.from_residual-in_err-push.result
    (next_read (map (λ w. w.now) ws) i _ _ _ _ (mapped_below (λ w. w.now) ws i (record { ref_ptr = (0, 0); now = [] }) (omega arith)) c.loop-name.invariant.read c.in_ok-unit.ensures.read) (search rules)

pub loop-name-preserved : goal.loop-name-preserved
loop-name-preserved g c =
    let ws = c.args.file_names.now in
    let i : ℕ = c.loop-name.name-index in
    let before = c.loop-name.invariant in
    record {
      taken = one_more_unit (g.F.Files.holds c.args.files.now) (g.F.Files.holds c.loop-name.files) (map (λ w. w.now) ws) c.loop-name.names c.next_unit.new.names
          c.loop-name.units.items c.push.new.self.items c.in_ok-unit.unit i c.in_ok-number.number c.loop-name.total (get_or ws i (record { ref_ptr = (0, 0); now = [] })).now c.in_ok-unit.length
          before.taken c.next_unit.ensures.older before.same
          (next_number _ _ _ c.loop-name.units.items i c.loop-name.total c.in_ok-number.number before.taken (omega (arith, c.in_ok-number.ensures, c.len.ensures, c.loop-name.units.ok)))
          c.in_ok-push.ensures.items (mapped_below (λ w. w.now) ws i (record { ref_ptr = (0, 0); now = [] }) (omega arith)) c.in_ok-unit.ensures.taken;
      older = λ n text there. c.next_unit.ensures.older n text (before.older n text there);
      counted = omega (arith, before.counted, c.next_unit.ensures.counted);
      same = c.next_unit.ensures.same ∙ before.same;
      read = next_read (map (λ w. w.now) ws) i _ _ _ _ (mapped_below (λ w. w.now) ws i (record { ref_ptr = (0, 0); now = [] }) (omega arith)) before.read c.in_ok-unit.ensures.read;
    }
