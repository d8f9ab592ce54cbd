-- How long a run of octets of a class is, by masks over eight of them at once.
pub mod ByOctet
pub mod LaneMasks
pub mod LaneRuns
