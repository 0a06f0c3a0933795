-- The statements of specs/Laws.antt and specs/Records.antt. Assumes nothing.
use Rattle.leading.specs.Laws.{LeadsInWindows, LeadsEnd}
use Rattle.leading.specs.Records.{NewLeads, DiffLeads, OldLeads, InputLeads, CommandLeads, TeamLeads, SkipLeads, LeadsJoin}
use Rattle.leading.proofs.Windows as windows
use Rattle.leading.proofs.Records as records

pub leads_in_windows : LeadsInWindows
leads_in_windows = windows.leads_in_windows

pub leads_end : LeadsEnd
leads_end = windows.leads_end

pub new_leads : NewLeads
new_leads = records.new_leads

pub diff_leads : DiffLeads
diff_leads = records.diff_leads

pub old_leads : OldLeads
old_leads = records.old_leads

pub input_leads : InputLeads
input_leads = records.input_leads

pub command_leads : CommandLeads
command_leads = records.command_leads

pub team_leads : TeamLeads
team_leads = records.team_leads

pub skip_leads : SkipLeads
skip_leads = records.skip_leads

pub leads_join : LeadsJoin
leads_join = records.leads_join
