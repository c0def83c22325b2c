use Rattle.stack_core.proofs.FlightLemmas.{pumped_flown}
use Rattle.stack_core.proofs.LeavesLemmas.{pump_leaves}
use Rattle.stack_core.proofs.host_core.HostCore.pump.Goals as goal

pub returns-clause-flown : goal.returns-clause-flown
returns-clause-flown c =
    pumped_flown c.args.self.now c.record_pump-pumped.new.self c.args.tick c.record_pump-pumped.result
    c.record_pump-pumped.ensures.some c.is_recording.ensures

pub returns-clause-leaves : goal.returns-clause-leaves
returns-clause-leaves c =
    pump_leaves c.args.self.now c.record_pump-pumped.new.self c.args.tick c.record_pump-pumped.result
    c.record_pump-pumped.ensures.some c.record_pump-pumped.ensures.none c.record_pump-pumped.ensures.err
