-- The text of a report of form 1 or 2: the first line, the line with the jobs and the span, a line per node by rank, and a line per
-- output that no input reads, by rank of its node and then by output. If job lines are asked for, a line per visit follows, by rank of
-- its node and then by position. A node's line has percentiles of the waits in form 2, and held visits in form 2 and for models of
-- version 2. Words are separated by one space, and each line ends with a line feed.
use Rattle.std.specs.Prelude.{ℕ, zero, suc, ◌+◌, ◌*◌, ◌/◌, ◌%◌, ◌==◌, ◌||◌, Bool, if◌then◌else◌, List, [], ◌∷◌, ◌++◌, length, Option, Some, None, slice_get, codes, decimal}
use Rattle.mq_core.specs.Local.{Local}
use Rattle.mq_core.specs.Machine.{State, Station, Visit}
use Rattle.mq_core.specs.NetworkRun.{run_in}
use Rattle.mq_core.specs.Results.{Totals, totals_of, exit_of, servers_in, wait_of, fates_from, visits_of}
use Rattle.mq_core.specs.Sound.{outputs_in}
use Rattle.mq_core.specs.Wiring.{ranking}
use Rattle.mq_core.specs.declared.model.Fate.{Fate}
use Rattle.mq_core.specs.declared.model.Fate.TheVariants.{Departs, Held, Lost}
use Rattle.mq_core.specs.declared.model.Kind.{Kind}
use Rattle.mq_core.specs.declared.model.Kind.TheVariants.{Source, Server, Delay, Loss, Tandem, ForkJoin, Split, Fork, Join, Trunk}
use Rattle.mq_core.specs.declared.model.Network.{Network}
use Rattle.mq_core.specs.declared.model.Node.{Node}
use Rattle.mq_core.specs.declared.model.Rows.{Rows}
use Rattle.mq_counts.specs.Counts.{is_read}
use Rattle.mq_stats.specs.Percentiles.{percentile, waits_at}

-- the first line, which names the form of the report
unfoldable pub head_line : ℕ → List ℕ
head_line form = codes "mpsim report " ++ decimal form ++ 10 ∷ []

-- the line with the jobs and the span: the number of records, and the time of the last event
unfoldable pub jobs_line : ℕ → ℕ → List ℕ
jobs_line jobs span = codes "jobs " ++ decimal jobs ++ codes " span " ++ decimal span ++ 10 ∷ []

-- the word for the kind of a node
abbrev pub kind_word : Kind → List ℕ
kind_word Source = codes "source"
kind_word (Server demand) = codes "server"
kind_word (Delay demand) = codes "delay"
kind_word (Loss places demand) = codes "loss"
kind_word (Tandem stages) = codes "tandem"
kind_word (ForkJoin branches) = codes "forkjoin"
kind_word (Split route) = codes "split"
kind_word (Fork outputs) = codes "fork"
kind_word Join = codes "join"
kind_word (Trunk servers demand) = codes "trunk"

-- the four digits of a number below 10,000
abbrev pub last_digits : ℕ → List ℕ
last_digits n = (48 + n / 1000) ∷ (48 + n / 100 % 10) ∷ (48 + n / 10 % 10) ∷ (48 + n % 10) ∷ []

-- a number of ten-thousandths: the digits before the last four, at least one, a point, the last four digits, and a line feed
unfoldable pub ten_thousandths : ℕ → List ℕ
ten_thousandths n = decimal (n / 10000) ++ 46 ∷ (last_digits (n % 10000) ++ 10 ∷ [])

-- the share of the servers' time in which they work, in ten-thousandths, rounded down; 0 if the span is 0
abbrev pub utilisation : ℕ → ℕ → ℕ → ℕ
utilisation busy servers span = if span == 0 then 0 else 10000 * busy / (servers * span)

-- the utilisation, or a dash for a node without servers, and a line feed
unfoldable pub utilisation_text : ℕ → ℕ → ℕ → List ℕ
utilisation_text busy servers span = if servers == 0 then codes "-" ++ 10 ∷ [] else ten_thousandths (utilisation busy servers span)

-- The parts of a node's line follow. All but the waits end with the word in front of the next part's first number.

-- the node's name and the word for its kind
unfoldable pub node_words : List ℕ → List ℕ → List ℕ
node_words name word = codes "node " ++ name ++ codes " " ++ word ++ codes " in "

-- the visits, and those of them that departed
unfoldable pub node_counts : Totals → List ℕ
node_counts totals = decimal totals.came ++ codes " out " ++ decimal totals.left ++ codes " lost "

-- the visits for which a loss station had no place or a trunk group no server, and, if the report gives them, the held visits
unfoldable pub node_losses : Bool → Totals → List ℕ
node_losses tells_held totals =
    if tells_held
    then decimal totals.lost ++ codes " held " ++ decimal totals.held ++ codes " wait "
    else decimal totals.lost ++ codes " wait "

-- the sum of the waiting times and the longest one
unfoldable pub node_waits : Totals → List ℕ
node_waits totals = decimal totals.wait ++ codes " max " ++ decimal totals.longest

-- three percentiles of waiting times
pub record Tail : Type 0 where
  pub p50 : ℕ
  pub p90 : ℕ
  pub p99 : ℕ

-- the percentiles of the waiting times, if the report gives them, and the word in front of the next number
unfoldable pub node_tail : Option Tail → List ℕ
node_tail None = codes " busy "
node_tail (Some tail) = codes " p50 " ++ decimal tail.p50 ++ codes " p90 " ++ decimal tail.p90 ++ codes " p99 " ++ decimal tail.p99 ++ codes " busy "

-- the time that the servers worked, the number of jobs summed over time, and the greatest number of jobs
unfoldable pub node_tallies : Totals → List ℕ
node_tallies totals = decimal totals.busy ++ codes " area " ++ decimal totals.area ++ codes " peak " ++ decimal totals.peak ++ codes " util "

-- all numbers of a node's line except its utilisation
abbrev pub node_numbers : Bool → Totals → Option Tail → List ℕ
node_numbers tells_held totals tail =
    node_counts totals ++ (node_losses tells_held totals ++ (node_waits totals ++ (node_tail tail ++ node_tallies totals)))

-- the line of a node with this name, kind, totals and percentiles, over this span
abbrev pub node_line : Bool → List ℕ → Kind → Totals → Option Tail → ℕ → List ℕ
node_line tells_held name kind totals tail span =
    node_words name (kind_word kind) ++ (node_numbers tells_held totals tail ++ utilisation_text totals.busy (servers_in kind) span)

-- a report gives held visits in form 2, and for models of version 2
abbrev pub tells_held : ℕ → ℕ → Bool
tells_held version form = (version == 2) || (form == 2)

-- the percentiles 50, 90 and 99 of these waits, which are in reports of form 2
abbrev pub told_tail : ℕ → List ℕ → Option Tail
told_tail form waits = if form == 2 then Some (record { p50 = percentile 50 waits; p90 = percentile 90 waits; p99 = percentile 99 waits }) else None

-- the name and the output, the number of jobs that left by it, and the sum of their times in the network
unfoldable pub exit_line : List ℕ → ℕ → ℕ × ℕ → List ℕ
exit_line name out exit =
    codes "exit " ++ name ++ codes "." ++ decimal out ++ codes " " ++ decimal exit.0 ++ codes " sojourn " ++ decimal exit.1 ++ 10 ∷ []

-- the line of an output, unless some input reads it
abbrev pub exit_lines_at : List Node → Rows → ℕ → List ℕ → Station Local → ℕ → List ℕ
exit_lines_at nodes rows v name station out = if is_read nodes v out then [] else exit_line name out (exit_of rows station out)

-- the lines of `more` outputs, from this one on
unfoldable pub exit_lines : List Node → Rows → ℕ → List ℕ → Station Local → ℕ → ℕ → List ℕ
exit_lines nodes rows v name station out zero = []
exit_lines nodes rows v name station out (suc more) = exit_lines_at nodes rows v name station out ++ exit_lines nodes rows v name station (out + 1) more

-- the line of the node with this index, from its totals and its visits in the state at the end
abbrev pub line_of : ℕ → ℕ → Rows → State Local → ℕ → Node → List ℕ
line_of version form rows end v node =
    let station = end.stations v in
    node_line (tells_held version form) node.name node.kind (totals_of rows node.kind station) (told_tail form (waits_at rows node.kind (visits_of node.kind station))) end.clock

-- the line of the node with this index, if the network has one
abbrev pub line_at : ℕ → ℕ → Rows → State Local → ℕ → Option Node → List ℕ
line_at version form rows end v None = []
line_at version form rows end v (Some node) = line_of version form rows end v node

-- the lines of these nodes
abbrev pub nodes_text : ℕ → Network → Rows → State Local → List ℕ → List ℕ
nodes_text form net rows end [] = []
nodes_text form net rows end (v ∷ order) = line_at net.version form rows end v (slice_get net.nodes v) ++ nodes_text form net rows end order

-- the lines of the exits of a node of the network
abbrev pub exits_at : List Node → Rows → State Local → ℕ → Option Node → List ℕ
exits_at nodes rows end v None = []
exits_at nodes rows end v (Some node) = exit_lines nodes rows v node.name (end.stations v) 0 (outputs_in node.kind)

-- the lines of the exits of these nodes
abbrev pub exits_text : Network → Rows → State Local → List ℕ → List ℕ
exits_text net rows end [] = []
exits_text net rows end (v ∷ order) = exits_at net.nodes rows end v (slice_get net.nodes v) ++ exits_text net rows end order

-- the beginning of a job line: the record's number, from 1, the node's name and the arrival time
unfoldable pub visit_words : List ℕ → ℕ → ℕ → List ℕ
visit_words name job arrive = codes "job " ++ decimal (job + 1) ++ codes " " ++ name ++ codes " arrive " ++ decimal arrive

-- how long the job waited and when it left, and a line feed
unfoldable pub departs_words : ℕ → ℕ → List ℕ
departs_words wait time = codes " wait " ++ decimal wait ++ codes " depart " ++ decimal time ++ 10 ∷ []

-- the word for a visit that was turned away, and a line feed
unfoldable pub lost_words : List ℕ
lost_words = codes " lost" ++ 10 ∷ []

-- the word for a job that is in the node for good, and a line feed
unfoldable pub held_words : List ℕ
held_words = codes " held" ++ 10 ∷ []

-- the wait and the departure time, or that the job is lost or held
abbrev pub fate_words : ℕ → Fate → List ℕ
fate_words wait (Departs time) = departs_words wait time
fate_words wait Lost = lost_words
fate_words wait Held = held_words

-- the line of a visit, from its job, its arrival time, its wait and its fate
abbrev pub visit_line : List ℕ → ℕ → ℕ → ℕ → Fate → List ℕ
visit_line name job arrive wait fate = visit_words name job arrive ++ fate_words wait fate

-- the lines of these visits, with their fates
abbrev pub visit_lines : Rows → List ℕ → Kind → List Visit → List Fate → List ℕ
visit_lines rows name kind [] fates = []
visit_lines rows name kind (visit ∷ visits) [] = []
visit_lines rows name kind (visit ∷ visits) (fate ∷ fates) =
    visit_line name visit.job visit.arrive (wait_of rows kind visit fate) fate ++ visit_lines rows name kind visits fates

-- the job lines of a node: one per visit, by position
abbrev pub node_jobs : Rows → Node → Station Local → List ℕ
node_jobs rows node station = visit_lines rows node.name node.kind station.visits (fates_from node.kind station 0 station.visits)

-- the job lines of a node of the network
abbrev pub jobs_at : Rows → State Local → ℕ → Option Node → List ℕ
jobs_at rows end v None = []
jobs_at rows end v (Some node) = node_jobs rows node (end.stations v)

-- the job lines of these nodes
abbrev pub jobs_text : Network → Rows → State Local → List ℕ → List ℕ
jobs_text net rows end [] = []
jobs_text net rows end (v ∷ order) = jobs_at rows end v (slice_get net.nodes v) ++ jobs_text net rows end order

-- the job lines of these nodes, if they are asked for
abbrev pub asked_jobs : Network → Rows → State Local → List ℕ → Bool → List ℕ
asked_jobs net rows end order jobs = if jobs then jobs_text net rows end order else []

-- the report of a state, of this form, with the nodes in this order, and with the job lines if they are asked for
abbrev pub report_text : Network → List ℕ → Rows → State Local → ℕ → Bool → List ℕ
report_text net order rows end form jobs =
    (head_line form ++ jobs_line (length rows.time) end.clock)
    ++ (nodes_text form net rows end order ++ (exits_text net rows end order ++ asked_jobs net rows end order jobs))

-- the report of the sequential event-list run of a network over rows, of this form, with the job lines if they are asked for
abbrev pub report_in : Network → Rows → ℕ → Bool → List ℕ
report_in net rows form jobs = report_text net (ranking net.nodes) rows (run_in net rows) form jobs
