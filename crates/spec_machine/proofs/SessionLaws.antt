-- What a memory leads to, by accepted commands and by sessions that open what was saved.
use Rattle.std.proofs.Common.{◌≡◌, List, [], ◌∷◌, ◌++◌, refl, sym, ap, subst, ◌∙◌}
use Rattle.spec_wire.specs.Commands.{CommandOf}
use Rattle.spec_machine.specs.Machine.{Memory, opened_memory, memory_after, memory_behind}
use Rattle.spec_machine.specs.Sessions.{Accepts, AcceptsSessions, LeadsTo, session_behind, sessions_behind}

pub leads-itself : (memory : Memory) → LeadsTo memory memory
leads-itself memory = record { commands = []; taken = tt; sessions = []; accepted = tt; is = refl }

pub command-leads : (memory now : Memory) (command : CommandOf) → Accepts memory command → LeadsTo (memory_after memory command) now → LeadsTo memory now
command-leads memory now command can lead =
    record { commands = command ∷ lead.commands; taken = (can, lead.taken); sessions = lead.sessions; accepted = lead.accepted; is = lead.is }

-- ---- sessions behind others

behind-join : (memory : Memory) (one other : List (List CommandOf)) → sessions_behind memory (one ++ other) ≡ sessions_behind (sessions_behind memory one) other
behind-join memory [] other = refl
behind-join memory (commands ∷ one) other = behind-join (session_behind memory commands) one other

accepts-join : (memory : Memory) (one other : List (List CommandOf)) → AcceptsSessions memory one → AcceptsSessions (sessions_behind memory one) other → AcceptsSessions memory (one ++ other)
accepts-join memory [] other first second = second
accepts-join memory (commands ∷ one) other first second = (first.0, accepts-join (session_behind memory commands) one other first.1 second)

-- What leads to a memory leads on to all that a session has that opens its state.
pub reopened-leads : (earlier saved now : Memory) → LeadsTo earlier saved → LeadsTo (opened_memory saved.state) now → LeadsTo earlier now
reopened-leads earlier saved now first second =
    let memory = memory_behind earlier first.commands in
    let more = second.commands ∷ second.sessions in
    record {
      commands = first.commands;
      taken = first.taken;
      sessions = first.sessions ++ more;
      accepted = accepts-join memory first.sessions more first.accepted (subst (λ (it : Memory). AcceptsSessions it more) first.is (second.taken, second.accepted));
      is = second.is ∙ ap (λ (it : Memory). sessions_behind it more) first.is ∙ sym (behind-join memory first.sessions more);
    }
