use Rattle.std.proofs.Common.{◌≡◌, ◌+◌, ◌*◌, ◌-◌, ◌≤◌, length, map}
use Rattle.rp_code.specs.Denoted.{actions_of, statements_of}
use Rattle.rp_meaning.specs.Statements as spec
use Rattle.rp_meaning.specs.Levels.{most_turns}
use Rattle.rp_eval_parts.specs.Serving.{Ready}
use Rattle.rp_eval.specs.Bodies.{value_at, action_at, labelled_at}
use Rattle.rp_eval.specs.Parts.{control_of}
use Rattle.rp_eval.proofs.walk.Walk.+statements.Given as goal

-- the whole list comes to what is left of it
abbrev pub invariant-statements-loop-item : goal.invariant-statements-loop-item
invariant-statements-loop-item g l =
    let action = action_at (g.W.Setting.world l.self.world.now) l.self.levels in
    record {
      ready : Ready (g.W.Setting.world l.self.world.now) l.run.memory;
      within : length l.others ≤ length l.fn.list;
      runs : action (statements_of l.fn.list) l.fn.frame l.fn.run.counter ≡ action (statements_of l.others) l.frame l.run.counter;
    }

abbrev pub invariant-matched-loop-first : goal.invariant-matched-loop-first
invariant-matched-loop-first g l =
    let value = value_at (g.W.Setting.world l.self.world.now) l.self.levels in
    let labelled = labelled_at (g.W.Setting.world l.self.world.now) l.self.levels in
    record {
      ready : Ready (g.W.Setting.world l.self.world.now) l.run.memory;
      within : length l.others ≤ length l.fn.actions;
      frame : l.frame ≡ l.fn.frame;
      runs : spec.matched value l.selector (map labelled (actions_of l.fn.actions)) l.fn.frame l.fn.run.counter ≡ spec.matched value l.selector (map labelled (actions_of l.others)) l.fn.frame l.run.counter;
    }

-- all turns come to what is left of them
abbrev pub invariant-turns-loop-turn : goal.invariant-turns-loop-turn
invariant-turns-loop-turn g l =
    let value = value_at (g.W.Setting.world l.self.world.now) l.self.levels in
    let action = action_at (g.W.Setting.world l.self.world.now) l.self.levels in
    let one = spec.turn value (control_of l.parts) (action (statements_of l.parts.body.now)) in
    record {
      ready : Ready (g.W.Setting.world l.self.world.now) l.run.memory;
      runs : spec.repeated most_turns one l.fn.running l.fn.frame l.fn.run.counter ≡ spec.repeated (most_turns - l._turn) one l.running l.frame l.run.counter;
    }

-- lists get shorter

abbrev pub decreases-statements-loop-item : goal.decreases-statements-loop-item
decreases-statements-loop-item g l = length l.others

abbrev pub decreases-matched-loop-first : goal.decreases-matched-loop-first
decreases-matched-loop-first g l = length l.others

-- by the length of the instructions at hand, and of functions that hand the same ones on by their rank

abbrev pub decreases-statements : goal.decreases-statements
decreases-statements g l = 8 * length l.list.now

abbrev pub decreases-statement : goal.decreases-statement
decreases-statement g l = 8 * length l.code.now

abbrev pub decreases-case : goal.decreases-case
decreases-case g l = 8 * length l.actions.now + 1

abbrev pub decreases-matched : goal.decreases-matched
decreases-matched g l = 8 * length l.actions.now

abbrev pub decreases-repeat : goal.decreases-repeat
decreases-repeat g l = 8 * length l.parts.now.body.now + 5

abbrev pub decreases-counted : goal.decreases-counted
decreases-counted g l = 8 * length l.parts.now.body.now + 4

abbrev pub decreases-with_variable : goal.decreases-with_variable
decreases-with_variable g l = 8 * length l.parts.now.body.now + 3

abbrev pub decreases-turns : goal.decreases-turns
decreases-turns g l = 8 * length l.parts.now.body.now + 2

abbrev pub decreases-turn : goal.decreases-turn
decreases-turn g l = 8 * length l.parts.now.body.now + 1
